use Rattle.std.proofs.Common.{cond, map, length, arith, sym, ap, ◌∙◌, Some}
use Rattle.std.proofs.lemmas.List.{length-map, take_all}
use Rattle.bib_syntax.specs.Views.{field_of}
use Rattle.edit_entries.specs.Documents.{has_name, last_position}
use Rattle.edit_strings.proofs.IndexFacts.{before_step}
use Rattle.edit_strings.proofs.definitions.definition_indices.Goals as goal

pub definitions-preserved : goal.definitions-preserved
definitions-preserved c = λ name.
    let definition = c.index-definitions-index.result in
    c.in_ok-add_definition.ensures name
    ∙ ap (cond (has_name name (field_of definition)) (Some c.definitions.index)) (c.definitions.invariant name)
    ∙ sym (before_step c.args.definitions.now c.definitions.index definition name c.definitions-test.true c.index-definitions-index.is)

pub returns : goal.returns
returns c = λ name.
    let xs = c.args.definitions.now in
    c.definitions.invariant name
    ∙ ap (last_position (has_name name))
    (take_all c.definitions.index (map field_of xs) (omega (arith, length-map xs field_of, c.definitions-test.false))
    ∙ sym (take_all (length xs) (map field_of xs) (omega (arith, length-map xs field_of))))
