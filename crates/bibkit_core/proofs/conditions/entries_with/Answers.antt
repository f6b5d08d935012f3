use Rattle.std.proofs.Common.{◌∙◌, ◌++◌, ◌∷◌, [], ap, map, sym}
use Rattle.bib_syntax.specs.Views.{entry_reading_of}
use Rattle.bib_queries.specs.Answers.{has_key}
use Rattle.bibkit_core.specs.Conditions.{entries_with}
use Rattle.bibkit_core.proofs.ConditionFacts.{filter_push}
use Rattle.bibkit_core.proofs.conditions.entries_with.Goals as goal

pub entries-preserved : goal.entries-preserved
entries-preserved c =
    let keys = map (λ key. key.now) c.args.keys.now in
    c.in_ok-push_listed.ensures keys c.in_ok-set.ensures
    ∙ ap (λ l. l ++ entries_with keys (entry_reading_of c.in-Some.entry ∷ [])) c.entries.invariant
    ∙ sym (filter_push entry_reading_of (has_key keys) c.entries.yielded c.in-Some.entry)
