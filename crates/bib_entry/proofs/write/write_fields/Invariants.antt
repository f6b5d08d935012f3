use Rattle.std.proofs.Common.{◌≡◌, ◌++◌}
use Rattle.std.specs.List.{flat_map}
use Rattle.std.specs.Slice.Iter.{iter_rest}
use Rattle.std.specs.String.{string_bytes}
use Rattle.std.specs.FinMap.{entries}
use Rattle.bib_entry.specs.WrittenEntries.{written_field}
use Rattle.bib_entry.proofs.write.write_fields.Given as goal

-- the text so far, followed by the lines of the remaining fields, is the old text followed by all lines
abbrev pub invariant-fields : goal.invariant-fields
invariant-fields l =
    string_bytes l.out ++ flat_map (written_field l.dialect l.entry.entry_type) (iter_rest l.name-iterator)
    ≡ string_bytes l.initial.out ++ flat_map (written_field l.dialect l.entry.entry_type) (entries l.entry.fields)
