-- Meaning: words of public contracts.
-- Sets of names.
use Rattle.std.specs.Prelude.{ℕ, Bool, List}
use Rattle.std.specs.Borrow.{Bor}
use Rattle.std.specs.BTreeSet.{BTreeSet, contains_by}
use Rattle.std.specs.Cmp.Lexicographic.{slice_cmp}
use Rattle.std.specs.Ordering.{nat_cmp}

-- whether a name is in a set
abbrev pub is_in_set : BTreeSet (Bor (List ℕ)) → List ℕ → Bool
is_in_set set name = contains_by (λ k. slice_cmp nat_cmp name k.now) set
