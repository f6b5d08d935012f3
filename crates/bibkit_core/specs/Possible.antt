-- Meaning: words of public contracts.
-- Disks for which the contracts of the calls hold. In a crash, `loose_disk` keeps the bytes of each file but may leave anything for a
-- name, and `firm_disk` keeps names and bytes.
use Rattle.std.specs.Prelude.{◌≡◌, ℕ, zero, suc, List, Option, None, Some, if◌then◌else◌}
use Rattle.std.specs.Str.{bytes_eq}
use Rattle.bibkit_core.specs.Folder.{Disk, Files}

-- a disk with these files and this open file: a crash keeps the bytes of each file, but may leave anything for a name
abbrev pub loose_disk : Files → Option (List ℕ) → Disk
loose_disk files open_name = record {
  is_known = Unit {0};
  holds = files;
  open_name = open_name;
  may_leave = λ _ _. Unit {0};
  may_leave_in = λ name bytes. files name ≡ Some bytes;
  moment = 0;
  left_since = λ _ _ _. Unit {0};
  counts_now = λ _ _ _ _ _. tt;
  only_now = λ _ _ _. tt;
}

-- the contents that a crash since a moment could have left on `firm_disk`: any contents since moment 0, and the contents in `files`
-- since a later moment
abbrev pub firm_since : Files → ℕ → List ℕ → Option (List ℕ) → Type 0
firm_since files zero name c = Unit {0}
firm_since files (suc t) name c = c ≡ files name

-- on `firm_disk`, a crash since the moment `t` could have left the current contents
pub firm_counts : (files : Files) (t : ℕ) (name : List ℕ) (c : Option (List ℕ)) → c ≡ files name → firm_since files t name c
firm_counts files zero name c now = tt
firm_counts files (suc t) name c now = now

-- a disk with these files at moment 1, and no open file: a crash leaves each file unchanged
abbrev pub firm_disk : Files → Disk
firm_disk files = record {
  is_known = Unit {0};
  holds = files;
  open_name = None;
  may_leave = λ name c. c ≡ files name;
  may_leave_in = λ name bytes. files name ≡ Some bytes;
  moment = 1;
  left_since = firm_since files;
  counts_now = λ t name c _ now. firm_counts files t name c now;
  only_now = λ name c left. left;
}

-- the files with `file` (bytes or `None`) at the name `name`, and otherwise those in `files`
abbrev pub with_file : Files → List ℕ → Option (List ℕ) → Files
with_file files name file other = if bytes_eq other name then file else files other
