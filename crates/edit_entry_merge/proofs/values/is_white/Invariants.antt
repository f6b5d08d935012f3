use Rattle.std.proofs.Common.{◌≡◌, drop}
use Rattle.std.specs.Char.{is_ascii_whitespace}
use Rattle.std.specs.List.{list_all}
use Rattle.edit_entry_merge.proofs.values.is_white.Given as goal

abbrev pub invariant-bytes : goal.invariant-bytes
invariant-bytes l = list_all is_ascii_whitespace l.text ≡ list_all is_ascii_whitespace (drop l.byte-index l.text)
