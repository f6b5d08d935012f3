-- An error of a part is an error of the whole, and the values of all parts are the value of the whole.
use Rattle.std.proofs.Common.{◌≡◌, ℕ, List, Result, Ok, Err, Option, Some, inl, inr, refl, sym, ap, subst, ◌∙◌}
use Rattle.std.specs.Borrow.{Bor}
use Rattle.std.specs.Prelude.{ℤ}
use Rattle.bib_tables.specs.declared.type_error.TypeError.{TypeError}
use Rattle.bib_tables.specs.ReadAs.{IsRefusal}
use Rattle.bib_dates.specs.declared.errors.ReadError.{ReadError}
use Rattle.bib_dates.specs.declared.errors.ReadError.TheVariants.{Specified, Unspecified}
use Rattle.bib_dates.specs.Readings.{Reading, ◌>>=◌, readable_value, MayRefuse}
use Rattle.bib_dates.specs.Readings.Reading.{says, error, unread}
use Rattle.bib_dates.specs.Code.{reading, part_reading}
use Rattle.bib_dates.specs.ThreeFields.{month_field, day_of, month_with_day, year_field, month_and_day, on_day, three_fields_of}

-- the error `e` is out of memory, or one that parsing with the result `r` may return
abbrev pub Refused : {A : Type 0} → Reading A → TypeError → Type 0
Refused r e = IsRefusal (readable_value r) (MayRefuse r) e

-- a reading that has a value is that value
said : {A : Type 0} (r : Reading A) (a : A) → readable_value r ≡ Some a → r ≡ says a
said (says b) a e = let x : b ≡ a = cc in ap (λ y. says y) x
said (error kind) a e = cc
said unread a e = cc

-- an error of the first step is an error of both steps
passed : {A B : Type 0} (r : Reading A) (next : A → Reading B) (e : TypeError) → Refused r e → Refused (r >>= next) e
passed (says a) next e (inl h) = inl h
passed (says a) next e (inr (other, none, never)) = absurd never
passed (error kind) next e (inl h) = inl h
passed (error kind) next e (inr (other, none, is)) = inr (other, refl, is)
passed unread next e (inl h) = inl h
passed unread next e (inr (other, none, is)) = inr (other, refl, is)

-- an error of a result is an error of the part
part_refused : {A : Type 0} (r : Result (A × Bor (List ℕ)) ReadError) (e : TypeError) → Refused (reading r) e → Refused (part_reading r) e
part_refused (Ok p) e (inl h) = inl h
part_refused (Ok p) e (inr (other, none, never)) = absurd never
part_refused (Err (Specified reason)) e (inl h) = inl h
part_refused (Err (Specified reason)) e (inr (other, none, is)) = inr (other, refl, is)
part_refused (Err (Unspecified reason)) e (inl h) = inl h
part_refused (Err (Unspecified reason)) e (inr (other, none, is)) = inr (other, refl, is)

-- a part with this value is the value with the rest of the text
part_said : {A : Type 0} (r : Result (A × Bor (List ℕ)) ReadError) (p : A × Bor (List ℕ))
    → readable_value (reading r) ≡ Some p → part_reading r ≡ says (p.0, p.1.now)
part_said (Ok q) p e = let x : q ≡ p = cc in ap (λ y. says (y.0, y.1.now)) x
part_said (Err (Specified reason)) p e = cc
part_said (Err (Unspecified reason)) p e = cc

-- ---- a month, and the day after it or in its own field

-- an error of the month is an error of month and day
pub month_refused : (text : List ℕ) (day : Option (List ℕ)) (r : Result (Option ℕ × Bor (List ℕ)) ReadError) (e : TypeError)
    → part_reading r ≡ month_field text → Refused (reading r) e → Refused (month_with_day text day) e
unfolding month_with_day
month_refused text day r e is h = passed (month_field text) _ e (subst (λ x. Refused x e) is (part_refused r e h))

-- if the month is parsed, only the day is left to parse
month_said : (text : List ℕ) (day : Option (List ℕ)) (r : Result (Option ℕ × Bor (List ℕ)) ReadError) (p : Option ℕ × Bor (List ℕ))
    → part_reading r ≡ month_field text → readable_value (reading r) ≡ Some p
    → month_with_day text day ≡ (day_of day p.1.now >>= (λ at. says (p.0, at)))
unfolding month_with_day
month_said text day r p is found = rw (sym is ∙ part_said r p found) refl

-- if the month is parsed and the day has an error, the month and the day have this error
pub day_refused : (text : List ℕ) (day : Option (List ℕ)) (r : Result (Option ℕ × Bor (List ℕ)) ReadError)
    (p : Option ℕ × Bor (List ℕ)) (read : Reading (Option ℕ)) (e : TypeError)
    → part_reading r ≡ month_field text → readable_value (reading r) ≡ Some p → read ≡ day_of day p.1.now → Refused read e
    → Refused (month_with_day text day) e
day_refused text day r p read e is found same h =
    subst (λ x. Refused x e) (sym (month_said text day r p is found))
    (passed (day_of day p.1.now) (λ at. says (p.0, at)) e (subst (λ x. Refused x e) same h))

-- a parsed month and a parsed day are the month and the day
pub month_and_day_read : (text : List ℕ) (day : Option (List ℕ)) (r : Result (Option ℕ × Bor (List ℕ)) ReadError)
    (p : Option ℕ × Bor (List ℕ)) (read : Reading (Option ℕ)) (d : Option ℕ)
    → part_reading r ≡ month_field text → readable_value (reading r) ≡ Some p → read ≡ day_of day p.1.now
    → readable_value read ≡ Some d → readable_value (month_with_day text day) ≡ Some (p.0, d)
month_and_day_read text day r p read d is found same h =
    let one : day_of day p.1.now ≡ says d = sym same ∙ said read d h in
    rw (month_said text day r p is found, one) refl

-- ---- three fields

-- an error of the year is an error of the three fields
pub year_refused : (year : List ℕ) (month day : Option (List ℕ)) (e : TypeError) → Refused (year_field year) e
    → Refused (three_fields_of year month day) e
unfolding three_fields_of
year_refused year month day e h = passed (year_field year) _ e h

-- if the year is parsed, only the month and the day are left to parse
year_said : (year : List ℕ) (month day : Option (List ℕ)) (y : ℤ) → readable_value (year_field year) ≡ Some y
    → three_fields_of year month day ≡ (month_and_day month day >>= (λ parts. says (on_day y parts.0 parts.1)))
unfolding three_fields_of
year_said year month day y h = rw (said (year_field year) y h) refl

-- if the year is parsed, an error of the month and the day is an error of the three fields
pub parts_refused : (year : List ℕ) (month day : Option (List ℕ)) (y : ℤ) (e : TypeError) → readable_value (year_field year) ≡ Some y
    → Refused (month_and_day month day) e → Refused (three_fields_of year month day) e
parts_refused year month day y e found h =
    subst (λ x. Refused x e) (sym (year_said year month day y found))
    (passed (month_and_day month day) (λ parts. says (on_day y parts.0 parts.1)) e h)

-- a parsed year, month and day are the date of the three fields
pub all_read : (year : List ℕ) (month day : Option (List ℕ)) (y : ℤ) (m d : Option ℕ) → readable_value (year_field year) ≡ Some y
    → readable_value (month_and_day month day) ≡ Some (m, d) → readable_value (three_fields_of year month day) ≡ Some (on_day y m d)
all_read year month day y m d found h =
    let one : month_and_day month day ≡ says (m, d) = said (month_and_day month day) (m, d) h in
    rw (year_said year month day y found, one) refl
