-- Machinery: words of private contracts.
-- The steps in which a file is replaced.
use Rattle.std.specs.Prelude.{◌≡◌, ◌≢◌, ◌⊎◌, ℕ, ◌+◌, ◌-◌, ◌^◌, ◌<◌, ◌≤◌, min, List, [], Option, None, Some, IsSome}
use Rattle.bibkit_core.specs.Folder.{Disk, IsAsBefore, IsAsBeforeBut, IsFileOf, IsSaved}
use Rattle.bibkit_core.specs.Replaced.{new_name, AreTwoFailed}
use Rattle.bibkit_core.specs.declared.replacing.ReplaceError.{ReplaceError}
use Rattle.bibkit_core.specs.declared.replacing.ReplaceError.TheVariants.{OutOfMemory, NamesTaken, NotReplaced, Unsure, Unsettled}

-- calls that affect only this name: each other name holds the same contents as before, and during and after the calls a crash
-- leaves only contents for it that it could leave before
pub record TouchesOnly (name : List ℕ) (old new : Disk) : Type 0 where
  pub known : new.is_known
  pub others : IsAsBeforeBut name old new
  pub later : old.moment ≤ new.moment
  pub past : (t : ℕ) (other : List ℕ) (c : Option (List ℕ)) → t ≤ old.moment → other ≢ name → new.left_since t other c
      → old.left_since t other c

-- calls that affect no name: each name holds the same contents as before, and during and after the calls a crash leaves only contents
-- for it that it could leave before
pub record TouchesNothing (old new : Disk) : Type 0 where
  pub known : new.is_known
  pub same : IsAsBefore old new
  pub later : old.moment ≤ new.moment
  pub past : (t : ℕ) (other : List ℕ) (c : Option (List ℕ)) → t ≤ old.moment → new.left_since t other c → old.left_since t other c

-- an empty file with one of the 100 names of new files was created beside the target, and is open; no other name is affected
pub record IsMadeBeside (target name : List ℕ) (old new : Disk) : Type 0 where
  pub number : ℕ
  pub below : number < 100
  pub is_new : name ≡ new_name target number
  pub free : old.holds name ≡ None
  pub empty : new.holds name ≡ Some []
  pub is_open : new.open_name ≡ Some name
  pub touches : TouchesOnly name old new

-- the number of failed calls if no file was created, by the error: one more for an error of the folder; the count stays at its
-- maximum. `Unsure` and `Unsettled` are impossible.
abbrev pub IsCountedOnce : ℕ → ℕ → ReplaceError → Type 0
IsCountedOnce old new OutOfMemory = Unit {0}
IsCountedOnce old new NamesTaken = Unit {0}
IsCountedOnce old new (NotReplaced e) = new ≡ min (old + 1) (2 ^ 64 - 1)
IsCountedOnce old new (Unsure e) = ⊥
IsCountedOnce old new (Unsettled e) = ⊥

-- the file has this text, and a crash leaves these bytes in the file, whatever names the file then has
pub record IsFilled (text name : List ℕ) (new : Disk) : Type 0 where
  pub full : new.holds name ≡ Some text
  pub saved : IsSaved name new

-- A call to rename the file `name` to `target` was made, and may have failed. At each moment until `new`, a crash leaves for the
-- target contents that it could leave before, or that file. All names except these two hold the same contents as before, and a
-- crash leaves only contents for them that it could leave before.
pub record IsExchange (name target : List ℕ) (old new : Disk) : Type 0 where
  pub known : new.is_known
  pub later : old.moment ≤ new.moment
  pub past : (t : ℕ) (c : Option (List ℕ)) → t ≤ old.moment → new.left_since t target c → old.left_since t target c ⊎ IsFileOf old name c
  pub others : (other : List ℕ) → other ≢ name → other ≢ target → new.holds other ≡ old.holds other
  pub crash : (other : List ℕ) (c : Option (List ℕ)) → other ≢ name → other ≢ target → new.may_leave other c → old.may_leave other c

-- the rename is done: the target has the file, the old name has none, and a crash leaves that file at the target if it existed
pub record IsExchanged (name target : List ℕ) (old new : Disk) : Type 0 where
  pub moved : new.holds target ≡ old.holds name
  pub gone : new.holds name ≡ None
  pub left : IsSome (old.holds name) → (c : Option (List ℕ)) → new.may_leave target c → IsFileOf old name c

-- The rename failed. The target holds its old contents, or the new file. The name of the new file has no file, unless two calls have
-- failed.
pub record IsUnsure (name target : List ℕ) (failures_old failures_new : ℕ) (old new : Disk) : Type 0 where
  pub either : (new.holds target ≡ old.holds target) ⊎ (new.holds target ≡ old.holds name)
  pub gone : (new.holds name ≡ None) ⊎ AreTwoFailed failures_old failures_new

-- the rename is done and the sync of the folder failed: the target holds the new file, and the old name has no file
pub record IsUnsettled (name target : List ℕ) (old new : Disk) : Type 0 where
  pub moved : new.holds target ≡ old.holds name
  pub gone : new.holds name ≡ None

-- the state of the files after the rename or the sync of the folder failed with this error; only `Unsure` (for the rename) and
-- `Unsettled` (for the sync) are possible
abbrev pub IsExchangeError : List ℕ → List ℕ → ℕ → ℕ → Disk → Disk → ReplaceError → Type 0
IsExchangeError name target failures_old failures_new old new OutOfMemory = ⊥
IsExchangeError name target failures_old failures_new old new NamesTaken = ⊥
IsExchangeError name target failures_old failures_new old new (NotReplaced e) = ⊥
IsExchangeError name target failures_old failures_new old new (Unsure e) = IsUnsure name target failures_old failures_new old new
IsExchangeError name target failures_old failures_new old new (Unsettled e) = IsUnsettled name target old new
