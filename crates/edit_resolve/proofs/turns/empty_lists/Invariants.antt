use Rattle.std.proofs.Common.{◌≡◌, length}
use Rattle.edit_resolve.proofs.turns.empty_lists.Given as goal

abbrev pub invariant-lists : goal.invariant-lists
invariant-lists l = length l.lists.items ≡ l._index
