use Rattle.std.proofs.Common.{◌≡◌, drop, map}
use Rattle.bib_syntax.specs.Views.{field_of}
use Rattle.edit_versions.specs.Alike.{are_alike_fields}
use Rattle.edit_versions.proofs.alike.are_alike_fields.Given as goal

-- the fields are alike exactly if the remaining fields are
abbrev pub invariant-fields : goal.invariant-fields
invariant-fields l =
    are_alike_fields (map field_of (drop l.index l.one)) (map field_of (drop l.index l.other))
    ≡ are_alike_fields (map field_of l.one) (map field_of l.other)
