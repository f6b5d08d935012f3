-- Meaning: words of public contracts.
-- The effect of replacing the text of a file, on that file and on the others of its folder.
use Rattle.std.specs.Prelude.{◌≡◌, ◌≢◌, ◌⊎◌, ℕ, ◌+◌, ◌-◌, ◌^◌, ◌<◌, ◌≤◌, min, List, ◌++◌, codes, Option, Some, IsSome}
use Rattle.std.specs.Fmt.{decimal}
use Rattle.bibkit_core.specs.Folder.{Disk}
use Rattle.bibkit_core.specs.declared.replacing.ReplaceError.{ReplaceError}
use Rattle.bibkit_core.specs.declared.replacing.ReplaceError.TheVariants.{OutOfMemory, NamesTaken, NotReplaced, Unsure, Unsettled}

-- the name of the new file beside `target` with this number
abbrev pub new_name : List ℕ → ℕ → List ℕ
new_name target number = target ++ (codes ".bibkit-" ++ decimal number)

-- each name of a new file with a number below `number` is in use
abbrev pub AreNamesTaken : List ℕ → ℕ → Disk → Type 0
AreNamesTaken target number disk = (k : ℕ) → k < number → IsSome (disk.holds (new_name target k))

-- At each moment from that of `old` to that of `new`, a crash leaves in the target contents that it could leave at the old
-- moment, or all of this text.
pub record IsNeverTorn (target text : List ℕ) (old new : Disk) : Type 0 where
  pub later : old.moment ≤ new.moment
  pub since : (c : Option (List ℕ)) → new.left_since old.moment target c → old.may_leave target c ⊎ (c ≡ Some text)
  -- since a moment before that of `old`, a crash leaves in the target contents that it could leave until `old`, or all of this text
  pub earlier : (t : ℕ) (c : Option (List ℕ)) → t ≤ old.moment → new.left_since t target c → old.left_since t target c ⊎ (c ≡ Some text)

-- the file of a name is on the disk: a crash leaves exactly the current contents of the name
abbrev pub IsOnDisk : List ℕ → Disk → Type 0
IsOnDisk name disk = (c : Option (List ℕ)) → disk.may_leave name c → c ≡ disk.holds name

-- At each moment from that of `old` to that of `new`, a crash leaves in the target its contents in `old`, or all of this text.
abbrev pub IsOldOrNew : List ℕ → List ℕ → Disk → Disk → Type 0
IsOldOrNew target text old new = (c : Option (List ℕ)) → new.left_since old.moment target c → (c ≡ old.holds target) ⊎ (c ≡ Some text)

-- a crash leaves this text in the target
abbrev pub IsLeft : List ℕ → List ℕ → Disk → Type 0
IsLeft target text disk = (c : Option (List ℕ)) → disk.may_leave target c → c ≡ Some text

-- the contents of the target after an error: this text after `Unsettled`, the old contents or this text after `Unsure`, and the
-- old contents after any other error
abbrev pub IsAfterError : List ℕ → List ℕ → Disk → Disk → ReplaceError → Type 0
IsAfterError target text old new OutOfMemory = new.holds target ≡ old.holds target
IsAfterError target text old new NamesTaken = new.holds target ≡ old.holds target
IsAfterError target text old new (NotReplaced e) = new.holds target ≡ old.holds target
IsAfterError target text old new (Unsure e) = (new.holds target ≡ old.holds target) ⊎ (new.holds target ≡ Some text)
IsAfterError target text old new (Unsettled e) = new.holds target ≡ Some text

-- a name holds the same contents as before, and a crash leaves for it only contents that a crash could leave before
pub record IsKept (name : List ℕ) (old new : Disk) : Type 0 where
  pub holds : new.holds name ≡ old.holds name
  pub crash : (c : Option (List ℕ)) → new.may_leave name c → old.may_leave name c

-- each name except the target holds the same contents as before
abbrev pub OthersHold : List ℕ → Disk → Disk → Type 0
OthersHold target old new = (other : List ℕ) → other ≢ target → new.holds other ≡ old.holds other

-- if the error is one of the folder, the count of its failed calls has grown, unless that count is at its maximum
abbrev pub IsCaused : ℕ → ℕ → ReplaceError → Type 0
IsCaused old new OutOfMemory = Unit {0}
IsCaused old new NamesTaken = Unit {0}
IsCaused old new (NotReplaced e) = old < 2 ^ 64 - 1 → old < new
IsCaused old new (Unsure e) = old < 2 ^ 64 - 1 → old < new
IsCaused old new (Unsettled e) = old < 2 ^ 64 - 1 → old < new

-- the count of failed calls after two more; it stays at its maximum
abbrev pub AreTwoFailed : ℕ → ℕ → Type 0
AreTwoFailed old new = new ≡ min (old + 2) (2 ^ 64 - 1)
