use Rattle.std.proofs.Common.{◌∙◌, ◌++◌, ◌∷◌, [], ap, map, sym}
use Rattle.std.specs.Prelude.{if◌then◌else◌}
use Rattle.bib_queries.specs.Known.{all_names}
use Rattle.bib_queries.specs.Needed.{is_listed}
use Rattle.bib_syntax.specs.Views.{entry_reading_of}
use Rattle.bibkit_core.specs.Compared.{missing_finding}
use Rattle.bibkit_core.proofs.DatabaseFacts.{missing_more}
use Rattle.bibkit_core.proofs.cited.Document.missing_among.Goals as goal

pub citations-preserved : goal.citations-preserved
citations-preserved c =
    let citation = c.citation-item.result in
    let known = is_listed (all_names (map entry_reading_of c.args.entries.now)) in
    let is_known =
    c.contains.ensures ∙ c.in_ok-set.ensures c.as_str.result.now
    ∙ ap (λ names. is_listed names c.as_str.result.now) (ap (map (λ n. n.now)) c.deref.ensures.value ∙ c.in_ok-names.ensures)
    ∙ ap known c.as_str.ensures in
    c.in_ok-push_unless_known.ensures
    ∙ ap (λ b. c.citations.found.items ++ (if b then [] else missing_finding citation ∷ [])) is_known
    ∙ ap (λ l. l ++ (if known citation.key then [] else missing_finding citation ∷ [])) c.citations.invariant
    ∙ sym (missing_more known c.deref-citation-items.result.now c.citations.citation-index citation c.citations-test.true
    c.citation-item.is)
