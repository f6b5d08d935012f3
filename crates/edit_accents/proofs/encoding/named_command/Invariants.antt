use Rattle.std.proofs.Common.{◌≡◌, ◌∷◌, take}
use Rattle.edit_accents.proofs.encoding.named_command.Given as goal

abbrev pub invariant-bytes : goal.invariant-bytes
invariant-bytes l = l.text.items ≡ 92 ∷ take l.byte-index l.byte-items
