-- Meaning: words of public contracts.
-- The effects of the calls on the files of a folder, and the contents that a crash may leave. The contracts promise no more than
-- POSIX:
-- - A new file is created whole or not at all. An error creates none.
-- - Bytes that were written and not synced may be any other bytes after a crash.
-- - A rename is atomic: at each moment, and after a crash, the new name has its old contents or the renamed file. The bytes of that
--   file are those that a crash may leave in it.
-- - Until the folder is synced, a crash may leave for a name any contents that it could leave before.
-- Nobody else changes these files meanwhile.
use Rattle.std.specs.Prelude.{◌≡◌, ◌≢◌, ◌⊎◌, ℕ, ◌+◌, ◌-◌, ◌^◌, ◌≤◌, min, true, false, Bool, List, [], ◌++◌, Option, None, Some, Result, Ok, Err, MatchResult}

-- the bytes of the file of each name, or `None` if the name has no file
abbrev pub Files : Type 0
Files = List ℕ → Option (List ℕ)

-- the known state of the files of a folder at a moment
pub record Disk : Type 1 where
  -- whether anything is known of the folder; most contracts of calls apply only then
  pub is_known : Type 0
  -- the current contents of each name
  pub holds : Files
  -- the name of the file that is open for writing
  pub open_name : Option (List ℕ)
  -- the contents (bytes, or no file) that a crash at this moment may leave for a name
  pub may_leave : List ℕ → Option (List ℕ) → Type 0
  -- the bytes that a crash at this moment may leave in the current file of a name, whatever names that file then has
  pub may_leave_in : List ℕ → List ℕ → Type 0
  -- the number of this moment; no call decreases it
  pub moment : ℕ
  -- the contents that a crash could have left for a name, at some moment since the one with this number, during a call or
  -- between two calls
  pub left_since : ℕ → List ℕ → Option (List ℕ) → Type 0
  -- since an earlier moment or the current one, a crash could have left any contents that it may leave now
  pub counts_now : (t : ℕ) (name : List ℕ) (c : Option (List ℕ)) → t ≤ moment → may_leave name c → left_since t name c
  -- since the current moment, a crash could have left only contents that it may leave now
  pub only_now : (name : List ℕ) (c : Option (List ℕ)) → left_since moment name c → may_leave name c

-- Time has elapsed from `old` to `new`. The contents that a crash since an earlier moment could have left are those that it could have
-- left until `old`, and those that a crash at the moment of `new` may leave.
pub record Elapses (old new : Disk) : Type 0 where
  pub later : old.moment ≤ new.moment
  pub nothing_else : (t : ℕ) (name : List ℕ) (c : Option (List ℕ)) → t ≤ old.moment → new.left_since t name c
      → old.left_since t name c ⊎ new.may_leave name c
  pub keeps : (t : ℕ) (name : List ℕ) (c : Option (List ℕ)) → t ≤ old.moment → old.left_since t name c → new.left_since t name c

-- Each name holds the same contents as before. For a name, and in its file, a crash leaves only contents that it could leave before.
pub record IsAsBefore (old new : Disk) : Type 0 where
  pub holds : (name : List ℕ) → new.holds name ≡ old.holds name
  pub crash : (name : List ℕ) (c : Option (List ℕ)) → new.may_leave name c → old.may_leave name c
  pub crash_in : (name bytes : List ℕ) → new.may_leave_in name bytes → old.may_leave_in name bytes

-- Each other name holds the same contents as before. For such a name, and in its file, a crash leaves only contents that it could leave
-- before.
pub record IsAsBeforeBut (name : List ℕ) (old new : Disk) : Type 0 where
  pub holds : (other : List ℕ) → other ≢ name → new.holds other ≡ old.holds other
  pub crash : (other : List ℕ) (c : Option (List ℕ)) → other ≢ name → new.may_leave other c → old.may_leave other c
  pub crash_in : (other bytes : List ℕ) → other ≢ name → new.may_leave_in other bytes → old.may_leave_in other bytes

-- a fact that holds if the call created a file
abbrev pub OnMade : {E : Type 0} → Result Bool E → Type 0 → Type 0
OnMade (Ok true) p = p
OnMade (Ok false) p = Unit {0}
OnMade (Err e) p = Unit {0}

-- a fact that holds if the call created no file because the name is in use
abbrev pub OnTaken : {E : Type 0} → Result Bool E → Type 0 → Type 0
OnTaken (Ok true) p = Unit {0}
OnTaken (Ok false) p = p
OnTaken (Err e) p = Unit {0}

-- a fact that holds if the call created no file, because the name is in use or because the call failed
abbrev pub OnUnmade : {E : Type 0} → Result Bool E → Type 0 → Type 0
OnUnmade (Ok true) p = Unit {0}
OnUnmade (Ok false) p = p
OnUnmade (Err e) p = p

-- The name was not in use, and has an empty file, which is open. The other names are as before. A crash may leave any contents
-- for this name.
pub record IsNewFile (name : List ℕ) (old new : Disk) : Type 0 where
  pub free : old.holds name ≡ None
  pub empty : new.holds name ≡ Some []
  pub is_open : new.open_name ≡ Some name
  pub others : IsAsBeforeBut name old new

-- a fact that holds for the name of the open file, if a file is open
abbrev pub OfOpen : Disk → (List ℕ → Type 0) → Type 0
OfOpen disk p = (name : List ℕ) → disk.open_name ≡ Some name → p name

-- if the name had a file, it now has the old bytes followed by the text
abbrev pub IsAppended : List ℕ → List ℕ → Disk → Disk → Type 0
IsAppended text name old new = (bytes : List ℕ) → old.holds name ≡ Some bytes → new.holds name ≡ Some (bytes ++ text)

-- a crash leaves exactly the current bytes in the file
abbrev pub IsSaved : List ℕ → Disk → Type 0
IsSaved name disk = (bytes : List ℕ) → disk.may_leave_in name bytes → disk.holds name ≡ Some bytes

-- `to` holds the file that had the name `from`, `from` has no file, and the other names hold the same contents as before
pub record IsRenamed (from to : List ℕ) (old new : Disk) : Type 0 where
  pub moved : new.holds to ≡ old.holds from
  pub gone : new.holds from ≡ None
  pub others : (other : List ℕ) → other ≢ from → other ≢ to → new.holds other ≡ old.holds other

-- `c` is the current file of the name, with bytes that a crash may leave in it
pub record IsFileOf (disk : Disk) (name : List ℕ) (c : Option (List ℕ)) : Type 0 where
  pub bytes : List ℕ
  pub whole : c ≡ Some bytes
  pub left : disk.may_leave_in name bytes

-- for `to`, a crash leaves contents that it could leave before, or the file that had the name `from`; for `from`, contents that
-- it could leave before, or no file; for the other names, only contents that it could leave before
pub record IsCrashOfRename (from to : List ℕ) (old new : Disk) : Type 0 where
  pub at_to : (c : Option (List ℕ)) → new.may_leave to c → old.may_leave to c ⊎ IsFileOf old from c
  pub at_from : (c : Option (List ℕ)) → new.may_leave from c → old.may_leave from c ⊎ (c ≡ None)
  pub others : (other : List ℕ) (c : Option (List ℕ)) → other ≢ from → other ≢ to → new.may_leave other c → old.may_leave other c

-- for this name, a crash leaves contents that it could leave before, or no file
abbrev pub IsCrashOfRemoval : List ℕ → Disk → Disk → Type 0
IsCrashOfRemoval name old new = (c : Option (List ℕ)) → new.may_leave name c → old.may_leave name c ⊎ (c ≡ None)

-- these contents are the current file of a name, with bytes that a crash may leave in it, or no file if the name has none
abbrev pub IsLeftAsNow : Disk → List ℕ → Option (List ℕ) → Type 0
IsLeftAsNow disk name None = disk.holds name ≡ None
IsLeftAsNow disk name (Some bytes) = disk.may_leave_in name bytes

-- the number of failed calls after a call with this result: one more if the call failed; the number stays at its maximum
abbrev pub IsCounted : {T E : Type 0} → ℕ → ℕ → Result T E → Type 0
IsCounted old new result = MatchResult result (λ _. new ≡ old) (λ _. new ≡ min (old + 1) (2 ^ 64 - 1))

-- the disk of a folder of which nothing is known
abbrev pub unknown_disk : Disk
unknown_disk = record {
  is_known = ⊥;
  holds = λ _. None;
  open_name = None;
  may_leave = λ _ _. ⊥;
  may_leave_in = λ _ _. ⊥;
  moment = 0;
  left_since = λ _ _ _. ⊥;
  counts_now = λ _ _ _ _ left. left;
  only_now = λ _ _ left. left;
}
