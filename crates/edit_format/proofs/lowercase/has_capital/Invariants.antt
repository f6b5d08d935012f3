use Rattle.std.proofs.Common.{◌≡◌, drop}
use Rattle.std.specs.Char.{is_ascii_uppercase}
use Rattle.std.specs.List.{list_any}
use Rattle.edit_format.proofs.lowercase.has_capital.Given as goal

abbrev pub invariant-bytes : goal.invariant-bytes
invariant-bytes l = list_any is_ascii_uppercase l.text ≡ list_any is_ascii_uppercase (drop l.byte-index l.text)
