use Rattle.std.proofs.Common.{◌≡◌, drop}
use Rattle.std.specs.List.{list_all}
use Rattle.edit_entries.specs.Layouts.{is_blank_byte}
use Rattle.edit_entries.proofs.layout.is_blank.Given as goal

abbrev pub invariant-bytes : goal.invariant-bytes
invariant-bytes l = list_all is_blank_byte l.text ≡ list_all is_blank_byte (drop l.byte-index l.text)
