use Rattle.std.proofs.Common.{◌≡◌, ◌++◌, drop, map}
use Rattle.bib_syntax.specs.Views.{field_of}
use Rattle.edit_entry_merge.specs.Frames.{outside_of_fields}
use Rattle.edit_entry_merge.proofs.frames.outside_fields.Given as goal

-- the bytes so far, followed by those outside of the remaining fields, are the result
abbrev pub invariant-fields : goal.invariant-fields
invariant-fields l =
    l.outside.items ++ outside_of_fields l.text l.at (map field_of (drop l.field-index l.fields)) l.end
    ≡ outside_of_fields l.text l.fn.start (map field_of l.fields) l.end
