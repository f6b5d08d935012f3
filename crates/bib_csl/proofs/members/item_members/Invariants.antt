use Rattle.std.proofs.Common.{◌≡◌, drop}
use Rattle.bib_csl.specs.Json.{with_variables, head_members}
use Rattle.bib_csl.specs.Tokens.{members_held}
use Rattle.bib_csl.proofs.members.item_members.Given as goal

abbrev pub invariant-fields : goal.invariant-fields
invariant-fields l =
    with_variables (drop l.field-index l.field-items) (members_held l.members.entries)
    ≡ with_variables l.field-items (head_members l.item)
