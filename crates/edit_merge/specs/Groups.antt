-- Machinery: words of private contracts.
-- The names of units that a side changed, as sets.
use Rattle.std.specs.Prelude.{◌≡◌, ℕ, Bool, List}
use Rattle.std.specs.BTreeSet.{contains_text}
use Rattle.edit_versions.specs.Versions.{VersionReading}
use Rattle.edit_merge.specs.Picked.{Versions, is_changed_group}
use Rattle.edit_merge.specs.declared.groups.Changes.{Changes}

-- a set has the own names whose units differ in two versions; `has` tests whether it contains a text
abbrev pub AreChangedNames : VersionReading → VersionReading → (List ℕ → Bool) → Type 0
AreChangedNames side base has = (own : List ℕ) → has own ≡ is_changed_group side base own

-- the own names whose units ours and theirs changed
pub record AreChanges (vs : Versions) (changes : Changes) : Type 0 where
  pub ours : AreChangedNames vs.ours vs.base (contains_text changes.ours)
  pub theirs : AreChangedNames vs.theirs vs.base (contains_text changes.theirs)
