-- The tests whether a text is a date, and which date three texts are, by the results of the calls that parse them.
use Rattle.std.proofs.Common.{◌≡◌, ℕ, true, false, List, inl, inr, sym, ap, ◌∙◌, Option, Some, None, Result, Ok, Err}
use Rattle.std.specs.Prelude.{IfOk, is_some, option_map}
use Rattle.std.specs.Str.{IsUtf8}
use Rattle.bib_chunks.proofs.ValueFacts.{verbatim_text}
use Rattle.bib_chunks.specs.Values.{Value, alone, text}
use Rattle.bib_chunks.specs.declared.chunk.Chunk.TheVariants.{Verbatim}
use Rattle.bib_dates.specs.Chunks.{date_reading, three_fields_reading}
use Rattle.bib_dates.specs.Dates.{date_of}
use Rattle.bib_dates.specs.Readings.{readable_value}
use Rattle.bib_dates.specs.ThreeFields.{three_fields_of}
use Rattle.bib_dates.specs.declared.date.Date.{Date}
use Rattle.bib_tables.specs.ReadAs.{IsRefusal}
use Rattle.bib_tables.specs.declared.type_error.TypeError.{TypeError}
use Rattle.bib_tables.specs.declared.type_error.TypeErrorKind.{TypeErrorKind}
use Rattle.bib_tables.specs.declared.type_error.TypeErrorKind.TheVariants.{OutOfMemory}

-- the reading of one verbatim chunk is that of its UTF-8 text
verbatim_reading : (chunks : Value) (t : List ℕ) → IsUtf8 t → chunks ≡ alone (Verbatim t) → date_reading chunks ≡ date_of t
verbatim_reading chunks t utf8 is = ap date_reading is ∙ ap date_of (verbatim_text t utf8)

pub date_is : (chunks : Value) (t : List ℕ) (date : Date) → IsUtf8 t → chunks ≡ alone (Verbatim t)
    → readable_value (date_reading chunks) ≡ Some date → true ≡ is_some (readable_value (date_of t))
date_is chunks t date utf8 is read = sym (ap (λ r. is_some (readable_value r)) (sym (verbatim_reading chunks t utf8 is)) ∙ ap is_some read)

-- if reading a date is refused with an error other than out of memory, there is no date
unread : (read : Option Date) (may : TypeErrorKind → Type 0) (e : TypeError) → IsRefusal read may e
    → (e.kind ≡ OutOfMemory → ⊥) → read ≡ None
unread read may e (inl memory) other = absurd (other (ap (λ x. x.kind) memory))
unread read may e (inr refused) other = refused.1

pub no_date_is : (chunks : Value) (t : List ℕ) (may : TypeErrorKind → Type 0) (e : TypeError) → IsUtf8 t
    → chunks ≡ alone (Verbatim t) → IsRefusal (readable_value (date_reading chunks)) may e → (e.kind ≡ OutOfMemory → ⊥)
    → false ≡ is_some (readable_value (date_of t))
no_date_is chunks t may e utf8 is refused other =
    sym
    (ap (λ r. is_some (readable_value r)) (sym (verbatim_reading chunks t utf8 is))
    ∙ ap is_some (unread (readable_value (date_reading chunks)) may e refused other))

-- ---- three fields

-- the text of one verbatim chunk is the UTF-8 text in it
pub chunk_text : {E : Type 0} (r : Result Value E) (t : List ℕ) → IsUtf8 t
    → IfOk r (λ chunks. chunks ≡ alone (Verbatim t)) → IfOk r (λ chunks. text chunks ≡ t)
chunk_text (Err e) t utf8 is = _
chunk_text (Ok chunks) t utf8 is = ap text is ∙ verbatim_text t utf8

-- the reading of chunks is that of their texts
three_reading : (year month : Value) (day : Option Value) (y m : List ℕ) (d : Option (List ℕ)) → text year ≡ y
    → text month ≡ m → option_map text day ≡ d
    → three_fields_reading year (Some month) day ≡ three_fields_of y (Some m) d
three_reading year month day y m d year_is month_is day_is =
    ap (λ t. three_fields_of t (Some (text month)) (option_map text day)) year_is
    ∙ ap (λ t. three_fields_of y (Some t) (option_map text day)) month_is ∙ ap (three_fields_of y (Some m)) day_is

pub three_read_as : (year month : Value) (day : Option Value) (y m : List ℕ) (d : Option (List ℕ)) (date : Date)
    → text year ≡ y → text month ≡ m → option_map text day ≡ d
    → readable_value (three_fields_reading year (Some month) day) ≡ Some date
    → Some date ≡ readable_value (three_fields_of y (Some m) d)
three_read_as year month day y m d date year_is month_is day_is read =
    sym read ∙ ap readable_value (three_reading year month day y m d year_is month_is day_is)

pub three_unread : (year month : Value) (day : Option Value) (y m : List ℕ) (d : Option (List ℕ))
    (may : TypeErrorKind → Type 0) (e : TypeError) → text year ≡ y → text month ≡ m → option_map text day ≡ d
    → IsRefusal (readable_value (three_fields_reading year (Some month) day)) may e → (e.kind ≡ OutOfMemory → ⊥)
    → None ≡ readable_value (three_fields_of y (Some m) d)
three_unread year month day y m d may e year_is month_is day_is refused other =
    sym (unread (readable_value (three_fields_reading year (Some month) day)) may e refused other)
    ∙ ap readable_value (three_reading year month day y m d year_is month_is day_is)
