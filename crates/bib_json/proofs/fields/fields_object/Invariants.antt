use Rattle.std.proofs.Common.{◌≡◌, map}
use Rattle.std.specs.Slice.Iter.{iter_rest}
use Rattle.std.specs.FinMap.{entries}
use Rattle.serde_json.specs.Data.{no_members}
use Rattle.serde_json.specs.View.{members_view}
use Rattle.bib_json.specs.Fields.{field_member}
use Rattle.bib_json.specs.Objects.{with_members}
use Rattle.bib_json.proofs.fields.fields_object.Given as goal

-- the members so far, extended by those of the remaining fields, are the members of all fields
abbrev pub invariant-fields : goal.invariant-fields
invariant-fields l =
    with_members (members_view l.members.entries) (map field_member (iter_rest l.name-iterator))
    ≡ with_members no_members (map field_member (entries l.fields))
