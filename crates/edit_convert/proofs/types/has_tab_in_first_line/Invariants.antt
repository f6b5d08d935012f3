use Rattle.std.proofs.Common.{◌≡◌, drop}
use Rattle.edit_convert.specs.Types.{has_tab_in_first_line}
use Rattle.edit_convert.proofs.types.has_tab_in_first_line.Given as goal

-- the bytes that are left decide
abbrev pub invariant-bytes : goal.invariant-bytes
invariant-bytes l = has_tab_in_first_line l.text ≡ has_tab_in_first_line (drop l.byte-index l.text)
