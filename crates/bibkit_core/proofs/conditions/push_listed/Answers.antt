use Rattle.std.proofs.Common.{◌∙◌, ◌∷◌, [], ap, map, sym}
use Rattle.std.proofs.lemmas.List.{map-append}
use Rattle.bib_syntax.specs.Views.{entry_reading_of}
use Rattle.bib_queries.specs.Answers.{has_key}
use Rattle.bibkit_core.proofs.ConditionFacts.{one_fails, one_passes}
use Rattle.bibkit_core.proofs.conditions.push_listed.Goals as goal

pub returns-in_ok-push : goal.returns-in_ok-push
returns-in_ok-push c = λ keys same.
    let e = entry_reading_of c.args.entry in
    ap (map entry_reading_of) c.in_ok-push.ensures.items ∙ map-append entry_reading_of c.args.kept.now.items (c.args.entry ∷ [])
    ∙ one_passes (has_key keys) (map entry_reading_of c.args.kept.now.items) e
    (sym (same e.key.text) ∙ sym c.contains.ensures ∙ c.if-contains.true)

pub returns-else-contains : goal.returns-else-contains
returns-else-contains c = λ keys same.
    let e = entry_reading_of c.args.entry in
    one_fails (has_key keys) (map entry_reading_of c.args.kept.now.items) e
    (sym (same e.key.text) ∙ sym c.contains.ensures ∙ c.if-contains.false)
