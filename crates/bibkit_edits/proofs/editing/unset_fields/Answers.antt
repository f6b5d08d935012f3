use Rattle.std.proofs.Common.{map}
use Rattle.std.specs.String.{string_bytes}
use Rattle.std.proofs.lemmas.Result.{IfOk-weaker}
use Rattle.bib_queries.specs.Needed.{is_listed}
use Rattle.bib_queries.specs.Sets.{is_in_set}
use Rattle.bibkit_edits.proofs.EditedFacts.{unset_made, unset_refused}
use Rattle.bibkit_edits.proofs.editing.unset_fields.Goals as goal

pub returns-clause-made : goal.returns-clause-made
returns-clause-made c =
    IfOk-weaker c.unset_fields.result _ _
    (λ new made.
    unset_made (map (λ k. k.now) c.args.keys.now) c.args.name.now c.in_ok-set.set c.args.document.now (string_bytes new)
    c.in_ok-set.ensures made) c.unset_fields.ensures.unset

pub returns-clause-refused : goal.returns-clause-refused
returns-clause-refused c =
    unset_refused c.unset_fields.result c.args.document.now (is_in_set c.in_ok-set.set) (is_listed (map (λ k. k.now) c.args.keys.now))
    c.args.name.now c.in_ok-set.ensures c.unset_fields.ensures.refused
