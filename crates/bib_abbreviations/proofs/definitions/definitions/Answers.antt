use Rattle.std.proofs.Common.{ap, map, refl, sym, cond, ◌∙◌}
use Rattle.std.proofs.lemmas.List.{take_all}
use Rattle.std.proofs.lemmas.Map.Text.{btree_map_updates_str}
use Rattle.std.specs.Prelude.{bytes_eq}
use Rattle.bib_abbreviations.proofs.PieceFacts.{lookup_sorted}
use Rattle.bib_syntax.specs.Views.{field_of, piece_of}
use Rattle.bib_abbreviations.specs.Abbreviations.{definition_in}
use Rattle.bib_abbreviations.proofs.DefinitionFacts.{defined_more}
use Rattle.bib_abbreviations.proofs.definitions.definitions.Goals as goal

pub definitions-preserved : goal.definitions-preserved
definitions-preserved c = λ name.
    defined_more (λ field. map piece_of field.now.items) c.args.pairs.now c.definitions.pair-index c.pair-item.result _
    name _ _ c.definitions-test.true c.pair-item.is refl (c.definitions.invariant name)
    (sym (lookup_sorted name c.insert.new.self.entries)
    ∙ btree_map_updates_str c.pair-item.result.key.v.now c.definitions.definitions c.insert.new.self _ c.in_ok-insert.ensures.updates name
    ∙ ap (cond (bytes_eq c.pair-item.result.key.v.now name) _) (lookup_sorted name c.definitions.definitions.entries))

pub returns : goal.returns
returns c = λ name.
    c.definitions.invariant name
    ∙ ap (λ l. definition_in (map field_of l) name) (take_all c.definitions.pair-index c.args.pairs.now c.definitions-test.false)
