-- Meaning: words of public contracts.
-- The output for an edited file, and the status.
use Rattle.std.specs.Prelude.{◌≡◌, ℕ, Bool, false, not, ◌==◌, List, Option, length}
use Rattle.std.specs.Io.KnownBytes.{Appends}
use Rattle.bib_source.specs.Unified.{IsDiff}
use Rattle.bibkit_edits.specs.Edited.{IsFileMade, IsFileRefused}
use Rattle.bibkit_edits.specs.declared.edit.Edit.{Edit}
use Rattle.bibkit_edits.specs.declared.edit.Refusal.{Refusal}
use Rattle.bibkit_edits.specs.declared.edit.Refusal.TheVariants as refusal
use Rattle.bibkit_edits.specs.declared.printing.Unprinted.{Unprinted}
use Rattle.bibkit_edits.specs.declared.printing.Unprinted.TheVariants as unprinted

-- the output takes the result of edits of a file's bytes, after its earlier contents
pub record HasPrintedEdited {K : Type 0} (taken : K → Option (List ℕ)) (edits : List Edit) (bytes : List ℕ) (old new : K) : Type 0 where
  pub text : List ℕ
  pub made : IsFileMade edits bytes text
  pub printed : Appends (taken old) (taken new) text

-- the output refuses the result of edits of a file's bytes, in a single call
pub record IsNotTaken {K : Type 0} (hands_over : K → List ℕ → Bool → K → Type 0) (edits : List Edit) (bytes : List ℕ)
    (old new : K) : Type 0 where
  pub text : List ℕ
  pub made : IsFileMade edits bytes text
  pub handed : hands_over old text false new

-- edits are refused with this refusal, and nothing is printed
pub record IsRefusedUnprinted {K : Type 0} (edits : List Edit) (bytes : List ℕ) (why : Refusal) (old new : K) : Type 0 where
  pub refused : IsFileRefused edits bytes why
  pub same : new ≡ old

-- printing the result of edits may fail with this error: the edits are refused, and the output is unchanged; or the output refuses the
-- result
abbrev pub IsNotPrinted : {K : Type 0} → (K → List ℕ → Bool → K → Type 0) → List Edit → List ℕ → K → K → Unprinted → Type 0
IsNotPrinted hands_over edits bytes old new (unprinted.Refused why) = IsRefusedUnprinted edits bytes why old new
IsNotPrinted hands_over edits bytes old new unprinted.NotTaken = IsNotTaken hands_over edits bytes old new

-- the output takes the diff from a file's bytes to the result of edits; `differs` says whether the diff isn't empty
pub record HasPrintedDifference {K : Type 0} (taken : K → Option (List ℕ)) (name : List ℕ) (edits : List Edit)
    (bytes : List ℕ) (differs : Bool) (old new : K) : Type 0 where
  pub text : List ℕ
  pub made : IsFileMade edits bytes text
  pub diff : List ℕ
  pub is : IsDiff name bytes text diff
  pub differ : differs ≡ not (length diff == 0)
  pub printed : Appends (taken old) (taken new) diff

-- the output refuses the diff from a file's bytes to the result of edits, in a single call
pub record IsDifferenceNotTaken {K : Type 0} (hands_over : K → List ℕ → Bool → K → Type 0) (name : List ℕ)
    (edits : List Edit) (bytes : List ℕ) (old new : K) : Type 0 where
  pub text : List ℕ
  pub made : IsFileMade edits bytes text
  pub diff : List ℕ
  pub is : IsDiff name bytes text diff
  pub handed : hands_over old diff false new

-- printing a diff may fail with this error: the edits are refused, and the output is unchanged; or the output refuses the diff
abbrev pub IsDifferenceNotPrinted : {K : Type 0} → (K → List ℕ → Bool → K → Type 0) → List ℕ → List Edit → List ℕ → K
    → K → Unprinted → Type 0
IsDifferenceNotPrinted hands_over name edits bytes old new (unprinted.Refused why) = IsRefusedUnprinted edits bytes why old new
IsDifferenceNotPrinted hands_over name edits bytes old new unprinted.NotTaken = IsDifferenceNotTaken hands_over name edits bytes old new

-- the status of a refusal
abbrev pub refusal_status : Refusal → ℕ
refusal_status (refusal.NotUtf8 at) = 2
refusal_status (refusal.File e) = 1
refusal_status (refusal.Added e) = 1
refusal_status (refusal.Edit index why) = 1
refusal_status (refusal.EarlyUse index definition) = 1
refusal_status (refusal.ReferenceCycle index entry) = 1
refusal_status (refusal.UnbalancedQuotes index) = 1
refusal_status refusal.OutOfMemory = 3

-- the status of an error of printing
abbrev pub status_of : Unprinted → ℕ
status_of (unprinted.Refused why) = refusal_status why
status_of unprinted.NotTaken = 2
