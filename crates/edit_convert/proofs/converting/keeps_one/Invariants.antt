use Rattle.std.proofs.Common.{◌≡◌, drop, map}
use Rattle.bib_syntax.specs.Views.{field_of}
use Rattle.edit_convert.specs.Conversions.{keeps_one}
use Rattle.edit_convert.specs.Tables.{replacement_by}
use Rattle.edit_convert.proofs.converting.keeps_one.Given as goal

-- a field is kept exactly if one of those still to visit is
abbrev pub invariant-fields : goal.invariant-fields
invariant-fields l =
    keeps_one (replacement_by l.changes) (map field_of (drop l.field-index l.fields))
    ≡ keeps_one (replacement_by l.changes) (map field_of l.fields)
