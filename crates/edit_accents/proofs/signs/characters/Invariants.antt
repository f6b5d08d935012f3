use Rattle.std.proofs.Common.{◌≡◌}
use Rattle.edit_accents.proofs.signs.characters.Given as goal

abbrev pub invariant-characters : goal.invariant-characters
invariant-characters l = l.cs.items ≡ l.yielded
