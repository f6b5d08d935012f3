use Rattle.std.proofs.Common.{◌≡◌, ◌≤◌, ◌||◌, ◌&&◌, ℕ, false, get_or, length}
use Rattle.std.specs.Prelude.{max, nat_le, nat_lt}
use Rattle.bibkit_core.proofs.conditions.cover.Given as goal

-- the offsets from `start` to before the next one are covered, and no others that weren't covered before
abbrev pub invariant-offsets : goal.invariant-offsets
invariant-offsets l = record {
  long : l.end ≤ length l.covered.items;
  last : l.at ≤ max l.start l.end;
  are : (at : ℕ) → get_or l.covered.items at false ≡ (get_or l.initial.covered.items at false || (nat_le l.start at && nat_lt at l.at));
}
