-- Lemmas about reports.
use Rattle.std.proofs.Common.{rules, ◌≡◌, ◌≢◌, refl, ℕ, Bool, true, false, cond, List, [], ◌∷◌, ◌++◌, Option, Some, None, Result, Ok, Err, ap, ◌∙◌, sym, subst, ⊎_elim}
use Rattle.std.specs.List.{filter, AllZip}
use Rattle.std.specs.declared.ops.Range.{Range}
use Rattle.std.proofs.lemmas.List.{append_assoc, append-nil}
use Rattle.std.proofs.lemmas.List.Elements.{filter-append}
use Rattle.bib_text.proofs.ListFacts.{all_zip_append}
use Rattle.bib_tables.specs.declared.type_error.TypeError.{TypeError}
use Rattle.bib_tables.specs.declared.type_error.TypeErrorKind.{TypeErrorKind}
use Rattle.bib_tables.specs.Requirements.{Names}
use Rattle.bib_typed.specs.declared.typed.Type.{Ghosts}
use Rattle.bib_tables.specs.ReadAs.{IsReadAs, LiesAt}
use Rattle.bib_typed.specs.Typed.{number_error}
use Rattle.bib_typed.specs.contracts.enums.PaginationType.TheImpl as pagination
use Rattle.bib_typed.specs.contracts.enums.GenderType.TheImpl as gender
use Rattle.bib_typed.specs.contracts.ranges.VecRangeU32Type.TheImpl as ranges
use Rattle.bib_typed.specs.contracts.numbers.I64Type.TheImpl as number
use Rattle.bib_tables.specs.declared.type_error.TypeErrorKind.TheVariants.{InvalidNumber, UnknownGender, UnknownPagination, OutOfMemory}
use Rattle.bib_values.specs.Enumerations.{pagination_read, gender_read}
use Rattle.bib_values.specs.Numbers.{number_read}
use Rattle.bib_values.specs.Ranges.{ranges_read}
use Rattle.bib_chunks.specs.Styled.{whole_span}
use Rattle.bib_chunks.specs.Values.{Value}
use Rattle.bib_dates.specs.declared.date.Date.{Date}
use Rattle.bib_dates.specs.Chunks.{AnswersReading}
use Rattle.bib_dates.specs.Readings.{Reading}
use Rattle.bib_dates.specs.Readings.Reading.{says, error, unread as not_read}
use Rattle.bib_text.proofs.OptionFacts.{none_is_some}
use Rattle.bib_entry.specs.Reports.{only_if, Verdict, is_error, IsErrorOfField, read_or, verdict, date_verdict, field_verdicts, date_verdicts, AreMalformed}
use Rattle.bib_entry.specs.Reports.Verdict.{fine}
use Rattle.bib_entry.specs.Verdicts.{FieldErrors, AppendsError, AppendsFieldError, AppendsErrors}
use Rattle.bib_entry.specs.declared.entry.Entry.{Entry}

-- a name that is reported or not, followed by other names
pub only_if_first : (is_reported : Bool) (name : List ℕ) (names : Names)
    → only_if is_reported name ++ names ≡ cond is_reported (name ∷ names) names
only_if_first true name names = refl
only_if_first false name names = refl

-- appending the errors of some verdicts, and then of others, appends those of both
pub adds_then : (said more : List (List ℕ × Verdict)) (old mid new : FieldErrors) → AppendsErrors said old mid
    → AppendsErrors more mid new → AppendsErrors (said ++ more) old new
adds_then said more old mid new h k = (
  h.0 ++ k.0,
  k.1 ∙ ap (λ reported. reported ++ k.0) h.1 ∙ append_assoc old h.0 k.0,
  subst (λ errors. AllZip IsErrorOfField errors (h.0 ++ k.0)) (sym (filter-append is_error said more))
      (all_zip_append IsErrorOfField (filter is_error said) (filter is_error more) h.0 k.0 h.2 k.2),
)

-- the verdict `fine` appends nothing
pub adds_nothing : (name : List ℕ) (old new : FieldErrors) → new ≡ old → AppendsErrors ((name, fine) ∷ []) old new
adds_nothing name old new same = ([], same ∙ sym (append-nil old), _)

-- an error other than out of memory has the given span
lies_there : (V : Type 0) (place : Range ℕ) (e : TypeError) → e.kind ≢ OutOfMemory → LiesAt {V = V} place (Err e) → e.span ≡ place
lies_there V place e some h = ⊎_elim (λ no_room. absurd (some (ap (λ error. error.kind) no_room))) (λ at. at) h

-- if chunks can only have an error of this kind at this span, appending the error of parsing them appends that of their verdict
pub adds_read : {V M : Type 0} (meaning : V → M) (reads : Option M) (allowed : TypeErrorKind → Type 0)
    (reason : TypeErrorKind) → ((kind : TypeErrorKind) → allowed kind → kind ≡ reason)
    → (place : Range ℕ) (read : Result V TypeError) (name : List ℕ) (old new : FieldErrors)
    → IsReadAs meaning reads allowed read → LiesAt place read → AppendsError read name old new
    → AppendsErrors ((name, read_or reads reason place) ∷ []) old new
adds_read meaning reads allowed reason is_reason place (Ok v) name old new h at same =
    subst (λ found. AppendsErrors ((name, read_or found reason place) ∷ []) old new) (sym h) (adds_nothing name old new same)
adds_read {V = V} meaning reads allowed reason is_reason place (Err e) name old new h at reported =
    ⊎_elim (λ no_room. absurd (reported.0 (ap (λ error. error.kind) no_room)))
    (λ refusal. subst (λ found. AppendsErrors ((name, read_or found reason place) ∷ []) old new) (sym refusal.1)
    ((name, e) ∷ [], reported.1, ((refl, (is_reason e.kind refusal.2, lies_there V place e reported.0 at)), _))) h

-- if a type has only one kind of error for given chunks, appending the error of a field as its value appends that of its verdict
pub adds_field : {V : Type 0} (type : Ghosts V) (reason : Value → TypeErrorKind)
    → ((chunks : Value) (kind : TypeErrorKind) → type.may_refuse chunks kind → kind ≡ reason chunks)
    → (field : Option Value) (name : List ℕ) (old new : FieldErrors) → AppendsFieldError type field name old new
    → AppendsErrors ((name, verdict type.reads reason field) ∷ []) old new
adds_field type reason is_reason None name old new h = adds_nothing name old new h
adds_field type reason is_reason (Some chunks) name old new (read, is_read, at, reported) =
    adds_read type.meaning (type.reads chunks) (type.may_refuse chunks) (reason chunks) (is_reason chunks)
    (whole_span chunks) read name old new is_read at reported

-- the error of a pagination scheme is appended
pub adds_pagination : (field : Option Value) (name : List ℕ) (old new : FieldErrors)
    → AppendsFieldError pagination.ghosts field name old new
    → AppendsErrors ((name, verdict pagination_read (λ _. UnknownPagination) field) ∷ []) old new
adds_pagination = adds_field pagination.ghosts (λ _. UnknownPagination) (λ _ _ same. same)

-- the error of a gender is appended
pub adds_gender : (field : Option Value) (name : List ℕ) (old new : FieldErrors)
    → AppendsFieldError gender.ghosts field name old new
    → AppendsErrors ((name, verdict gender_read (λ _. UnknownGender) field) ∷ []) old new
adds_gender = adds_field gender.ghosts (λ _. UnknownGender) (λ _ _ same. same)

-- the error of a list of ranges is appended
pub adds_ranges : (field : Option Value) (name : List ℕ) (old new : FieldErrors)
    → AppendsFieldError ranges.ghosts field name old new
    → AppendsErrors ((name, verdict ranges_read (λ _. InvalidNumber) field) ∷ []) old new
adds_ranges = adds_field ranges.ghosts (λ _. InvalidNumber) (λ _ _ same. same)

-- the error of a number is appended
pub adds_number : (field : Option Value) (name : List ℕ) (old new : FieldErrors)
    → AppendsFieldError number.ghosts field name old new
    → AppendsErrors ((name, verdict number_read number_error field) ∷ []) old new
adds_number = adds_field number.ghosts number_error (λ _ _ same. same)

-- if the error of parsing a date, if any, is appended, then so is the error of its verdict
pub adds_date : (reading : Reading Date) (place : Range ℕ) (read : Result Date TypeError) (name : List ℕ)
    (old new : FieldErrors) → AnswersReading reading read → LiesAt place read → AppendsError read name old new
    → AppendsErrors ((name, date_verdict reading place) ∷ []) old new
adds_date (says date) place (Ok d) name old new h at same = adds_nothing name old new same
adds_date (says date) place (Err e) name old new h at reported =
    ⊎_elim (λ no_room. absurd (reported.0 (ap (λ error. error.kind) no_room))) (λ refusal. absurd refusal.2) h
adds_date (error kind) place (Ok d) name old new h at same = absurd (none_is_some h)
adds_date (error kind) place (Err e) name old new h at reported =
    ⊎_elim (λ no_room. absurd (reported.0 (ap (λ error. error.kind) no_room)))
    (λ refusal. ((name, e) ∷ [], reported.1, ((refl, (refusal.2.0, lies_there Date place e reported.0 at)), _))) h
adds_date not_read place (Ok d) name old new h at same = absurd (none_is_some h)
adds_date not_read place (Err e) name old new h at reported =
    ⊎_elim (λ no_room. absurd (reported.0 (ap (λ error. error.kind) no_room)))
    (λ refusal. ((name, e) ∷ [], reported.1, ((refl, (refusal.2, lies_there Date place e reported.0 at)), _))) h

-- appending the errors of six fields one after another appends those of all six in order
pub adds_fields : (v₁ v₂ v₃ v₄ v₅ v₆ : List ℕ × Verdict) (old t₁ t₂ t₃ t₄ t₅ new : FieldErrors)
    → AppendsErrors (v₁ ∷ []) old t₁ → AppendsErrors (v₂ ∷ []) t₁ t₂ → AppendsErrors (v₃ ∷ []) t₂ t₃
    → AppendsErrors (v₄ ∷ []) t₃ t₄ → AppendsErrors (v₅ ∷ []) t₄ t₅ → AppendsErrors (v₆ ∷ []) t₅ new
    → AppendsErrors (v₁ ∷ v₂ ∷ v₃ ∷ v₄ ∷ v₅ ∷ v₆ ∷ []) old new
adds_fields v₁ v₂ v₃ v₄ v₅ v₆ old t₁ t₂ t₃ t₄ t₅ new a₁ a₂ a₃ a₄ a₅ a₆ =
    adds_then (v₁ ∷ []) (v₂ ∷ v₃ ∷ v₄ ∷ v₅ ∷ v₆ ∷ []) old t₁ new a₁
    (adds_then (v₂ ∷ []) (v₃ ∷ v₄ ∷ v₅ ∷ v₆ ∷ []) t₁ t₂ new a₂
    (adds_then (v₃ ∷ []) (v₄ ∷ v₅ ∷ v₆ ∷ []) t₂ t₃ new a₃
    (adds_then (v₄ ∷ []) (v₅ ∷ v₆ ∷ []) t₃ t₄ new a₄ (adds_then (v₅ ∷ []) (v₆ ∷ []) t₄ t₅ new a₅ a₆))))

-- appending the errors of four dates one after another appends those of all four in order
pub adds_dates : (v₁ v₂ v₃ v₄ : List ℕ × Verdict) (old t₁ t₂ t₃ new : FieldErrors) → AppendsErrors (v₁ ∷ []) old t₁
    → AppendsErrors (v₂ ∷ []) t₁ t₂ → AppendsErrors (v₃ ∷ []) t₂ t₃ → AppendsErrors (v₄ ∷ []) t₃ new
    → AppendsErrors (v₁ ∷ v₂ ∷ v₃ ∷ v₄ ∷ []) old new
adds_dates v₁ v₂ v₃ v₄ old t₁ t₂ t₃ new a₁ a₂ a₃ a₄ =
    adds_then (v₁ ∷ []) (v₂ ∷ v₃ ∷ v₄ ∷ []) old t₁ new a₁
    (adds_then (v₂ ∷ []) (v₃ ∷ v₄ ∷ []) t₁ t₂ new a₂ (adds_then (v₃ ∷ []) (v₄ ∷ []) t₂ t₃ new a₃ a₄))

-- if the errors of the fields and then those of the dates are appended to an empty list, it has all errors of the entry
pub reported_all : (entry : Entry) (mid new : FieldErrors) → AppendsErrors (field_verdicts entry) [] mid
    → AppendsErrors (date_verdicts entry) mid new → AreMalformed entry new
reported_all entry mid new h k =
    let all = adds_then (field_verdicts entry) (date_verdicts entry) [] mid new h k in
    subst (λ reported. AreMalformed entry reported) (sym all.1) all.2
