-- Machinery: words of private contracts.
-- Appending the errors of fields to a report.
use Rattle.std.specs.Prelude.{◌≡◌, ◌≢◌, ℕ, List, [], ◌∷◌, ◌++◌, Option, Some, None, Result, Ok, Err}
use Rattle.std.specs.List.{filter, AllZip}
use Rattle.bib_tables.specs.declared.type_error.TypeError.{TypeError}
use Rattle.bib_tables.specs.declared.type_error.TypeErrorKind.TheVariants.{OutOfMemory}
use Rattle.bib_typed.specs.declared.typed.Type.{Ghosts}
use Rattle.bib_tables.specs.ReadAs.{IsReadAs, LiesAt}
use Rattle.bib_chunks.specs.Styled.{whole_span}
use Rattle.bib_chunks.specs.Values.{Value}
use Rattle.bib_entry.specs.Reports.{Verdict, is_error, IsErrorOfField}

-- the reported errors, each with the name of its field
abbrev pub FieldErrors : Type 0
FieldErrors = List (List ℕ × TypeError)

-- the error of a result is appended with this name, and is not out of memory. If the result has no error, nothing is appended
abbrev pub AppendsError : {V : Type 0} → Result V TypeError → List ℕ → FieldErrors → FieldErrors → Type 0
AppendsError (Ok v) name old new = new ≡ old
AppendsError (Err e) name old new = (e.kind ≢ OutOfMemory) × (new ≡ old ++ (name, e) ∷ [])

-- if the field exists and can't be parsed as a value of this type, its error is appended; otherwise nothing is
abbrev pub AppendsFieldError : {V : Type 0} → Ghosts V → Option Value → List ℕ → FieldErrors → FieldErrors → Type 0
AppendsFieldError type None name old new = new ≡ old
AppendsFieldError {V} type (Some chunks) name old new =
    (read : Result V TypeError) × IsReadAs type.meaning (type.reads chunks) (type.may_refuse chunks) read
    × LiesAt (whole_span chunks) read × AppendsError read name old new

-- one error is appended for each verdict that reports one, in order
abbrev pub AppendsErrors : List (List ℕ × Verdict) → FieldErrors → FieldErrors → Type 0
AppendsErrors said old new = (reported : FieldErrors) × (new ≡ old ++ reported) × AllZip IsErrorOfField (filter is_error said) reported
