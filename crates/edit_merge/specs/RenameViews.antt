-- Machinery: words of private contracts.
-- The values of the code as definitions of renames.
use Rattle.std.specs.Prelude.{◌≡◌, ℕ, List, Option, option_map, map}
use Rattle.std.specs.Borrow.{Bor}
use Rattle.std.specs.BTreeMap.{BTreeMap, get_by}
use Rattle.std.specs.Cmp.Lexicographic.{slice_cmp}
use Rattle.std.specs.Ordering.{nat_cmp}
use Rattle.edit_changes.specs.Counts.{AreCounts}
use Rattle.edit_merge.specs.Renames as renames
use Rattle.edit_merge.specs.declared.renames.Documents.{Documents}
use Rattle.edit_merge.specs.declared.renames.KeyCounts.{KeyCounts}
use Rattle.edit_merge.specs.declared.renames.Rename.{Rename}

-- a rename
abbrev pub rename_view : Rename → renames.RenameReading
rename_view r = record { old = r.old.now; new = r.new.now }

-- the documents of the versions
abbrev pub documents_of : Documents → renames.Documents
documents_of ds = record { base = ds.base.now; ours = ds.ours.now; theirs = ds.theirs.now }

-- the key that a map has for a key, if there is one
abbrev pub replacement_in : BTreeMap (Bor (List ℕ)) (Bor (List ℕ)) → List ℕ → Option (List ℕ)
replacement_in keys key = option_map (λ k. k.now) (get_by (λ k. slice_cmp nat_cmp key k.now) keys)

-- the numbers of entries with each key in each version
pub record AreKeyCounts (ds : renames.Documents) (counts : KeyCounts) : Type 0 where
  pub base : AreCounts (renames.entry_keys ds.base) counts.base
  pub ours : AreCounts (renames.entry_keys ds.ours) counts.ours
  pub theirs : AreCounts (renames.entry_keys ds.theirs) counts.theirs
