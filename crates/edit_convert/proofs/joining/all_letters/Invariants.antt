use Rattle.std.proofs.Common.{◌≡◌, drop}
use Rattle.std.specs.Char.{is_ascii_alphabetic}
use Rattle.std.specs.List.{list_all}
use Rattle.edit_convert.proofs.joining.all_letters.Given as goal

abbrev pub invariant-bytes : goal.invariant-bytes
invariant-bytes l = list_all is_ascii_alphabetic l.text ≡ list_all is_ascii_alphabetic (drop l.byte-index l.byte-items)
