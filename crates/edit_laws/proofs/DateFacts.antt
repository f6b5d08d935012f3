-- Entries with the same types and the same date fields have the same dates after inheriting from such entries.
use Rattle.std.proofs.Common.{◌≡◌, ℕ, List, [], ◌∷◌, Bool, true, false, cond, refl, sym, ap, ◌∙◌, Some, None, Option, is_some}
use Rattle.std.specs.Prelude.{bytes_eq, codes, not, ◌&&◌, ◌||◌}
use Rattle.std.specs.List.{AllZip}
use Rattle.bib_chunks.specs.Styled.{Atom}
use Rattle.bib_dates.specs.Readings.{readable_value}
use Rattle.bib_dates.specs.ThreeFields.{three_fields_of}
use Rattle.bib_inheritance.specs.EntryTexts.{EntryTexts, FieldTexts, first_some, has}
use Rattle.bib_inheritance.specs.InheritableDate.{date_for, dated_text, inheritable_date, inheritable_date_by, last_date, looks_for_date, of_three_fields}
use Rattle.bib_inheritance.specs.Inherited.{book_titles, date_parts, field_by, first_offer, inherited_field, is_periodical, journal_titles, main_titles, offer, offer_names, offered_field, same_meaning, wants, with_inherited_fields}
use Rattle.bib_inheritance.specs.References.{plain}
use Rattle.bib_tables.specs.EntryType.{is_collection, is_multi_volume}
use Rattle.bib_tables.specs.Requirements.{Names, inherits, is_container, is_one_of, rules_of}
use Rattle.bib_tables.specs.declared.mechanics.EntryType.{EntryType}
use Rattle.bib_text.specs.Enums.{value_named}
use Rattle.std.specs.Prelude.{option_map, unwrap_or}

-- two entries have the same type and the same fields of a date
pub record HaveSameDate (one other : EntryTexts) : Type 0 where
  pub kind : one.entry_type ≡ other.entry_type
  pub date : one.fields (codes "date") ≡ other.fields (codes "date")
  pub year : one.fields (codes "year") ≡ other.fields (codes "year")
  pub month : one.fields (codes "month") ≡ other.fields (codes "month")
  pub day : one.fields (codes "day") ≡ other.fields (codes "day")

-- ---- the date of an entry

date_by : (f g : FieldTexts) → f (codes "month") ≡ g (codes "month") → f (codes "day") ≡ g (codes "day")
    → (date year : Option (List Atom)) → inheritable_date_by f date year ≡ inheritable_date_by g date year
date_by f g month day (Some date) year = refl
date_by f g month day None None = refl
date_by f g month day None (Some year) =
    ap (λ o. of_three_fields (readable_value (three_fields_of (plain year) (option_map plain o) (option_map plain (f
    (codes "day")))))) month
    ∙ ap (λ o. of_three_fields (readable_value (three_fields_of (plain year) (option_map plain (g (codes "month")))
    (option_map plain o)))) day

pub date_same : (one other : EntryTexts) → HaveSameDate one other → inheritable_date one.fields ≡ inheritable_date other.fields
date_same one other same =
    ap (λ o. inheritable_date_by one.fields o (one.fields (codes "year"))) same.date
    ∙ ap (λ o. inheritable_date_by one.fields (other.fields (codes "date")) o) same.year
    ∙ date_by one.fields other.fields same.month same.day (other.fields (codes "date")) (other.fields (codes "year"))

pub looks_alike : (one other : EntryTexts) → HaveSameDate one other → looks_for_date one ≡ looks_for_date other
looks_alike one other same =
    ap (λ type. (rules_of type).needs_date && not (has one (codes "date") || has one (codes "year"))) same.kind
    ∙ ap (λ o. (rules_of other.entry_type).needs_date && not (is_some o || has one (codes "year"))) same.date
    ∙ ap (λ o. (rules_of other.entry_type).needs_date && not (has other (codes "date") || is_some o)) same.year

last_same : (xs ys : List EntryTexts) → AllZip HaveSameDate xs ys → last_date xs ≡ last_date ys
last_same [] [] all = refl
last_same [] (y ∷ ys) all = absurd all
last_same (x ∷ xs) [] all = absurd all
last_same (x ∷ xs) (y ∷ ys) all =
    ap (λ o. first_some o (dated_text (inheritable_date x.fields))) (last_same xs ys all.1)
    ∙ ap (λ d. first_some (last_date ys) (dated_text d)) (date_same x y all.0)

-- ---- the fields of a date, as they are offered

-- for this name, no entry offers a title or a field with another name
pub record IsOfferedAlone (name : List ℕ) : Type 0 where
  pub journal : value_named journal_titles name ≡ None
  pub book : value_named book_titles name ≡ None
  pub main : value_named main_titles name ≡ None
  pub meaning : value_named same_meaning name ≡ None

no_title : (name : List ℕ) → IsOfferedAlone name → (a b c : Bool)
    → first_some (cond a (value_named journal_titles name) None)
    (first_some (cond b (value_named book_titles name) None) (cond c (value_named main_titles name) None)) ≡ None
no_title name alone a b c =
    ap
    (λ o.
    first_some (cond a o None) (first_some (cond b (value_named book_titles name) None) (cond c (value_named main_titles name) None)))
    alone.journal
    ∙ ap (λ o. first_some (cond a None None) (first_some (cond b o None) (cond c (value_named main_titles name) None))) alone.book
    ∙ ap (λ o. first_some (cond a None None) (first_some (cond b None None) (cond c o None))) alone.main ∙ by_all a b c
  where
    by_all : (a b c : Bool) → first_some {A = Names} (cond a None None) (first_some (cond b None None) (cond c None None)) ≡ None
    by_all true true true = refl
    by_all true true false = refl
    by_all true false true = refl
    by_all true false false = refl
    by_all false true true = refl
    by_all false true false = refl
    by_all false false true = refl
    by_all false false false = refl

alone_names : (name : List ℕ) (type : EntryType) → IsOfferedAlone name → offer_names type name ≡ name ∷ []
alone_names name type alone =
    ap (λ o. unwrap_or (first_some o (value_named same_meaning name)) (name ∷ []))
    (no_title name alone (is_periodical type) (is_collection type) (is_multi_volume type))
    ∙ ap (λ o. unwrap_or (first_some None o) (name ∷ [])) alone.meaning

offer_alone : (name : List ℕ) (texts : EntryTexts) → IsOfferedAlone name → offer texts name ≡ first_some (texts.fields name) None
offer_alone name texts alone = ap (first_offer texts.fields) (alone_names name texts.entry_type alone)

inherited_date_field : (type : EntryType) (name : List ℕ) → IsOfferedAlone name → (xs ys : List EntryTexts)
    → AllZip (λ (x : EntryTexts) (y : EntryTexts). x.fields name ≡ y.fields name) xs ys
    → inherited_field type name xs ≡ inherited_field type name ys
inherited_date_field type name alone [] [] all = refl
inherited_date_field type name alone [] (y ∷ ys) all = absurd all
inherited_date_field type name alone (x ∷ xs) [] all = absurd all
inherited_date_field type name alone (x ∷ xs) (y ∷ ys) all =
    ap (λ o. first_some (cond (wants type x name) o None) (inherited_field type name xs)) (offer_alone name x alone)
    ∙ ap
    (λ o.
    first_some (cond (inherits type name && (not (is_container type) || is_some o)) (first_some o None) None)
    (inherited_field type name xs))
    all.0
    ∙ ap (λ o. first_some (cond (wants type y name) o None) (inherited_field type name xs)) (sym (offer_alone name y alone))
    ∙ ap (first_some (offered_field type y name)) (inherited_date_field type name alone xs ys all.1)

-- ---- after inheriting

each_same : (name : List ℕ) → ((x y : EntryTexts) → HaveSameDate x y → x.fields name ≡ y.fields name) → (xs ys : List EntryTexts)
    → AllZip HaveSameDate xs ys → AllZip (λ (x : EntryTexts) (y : EntryTexts). x.fields name ≡ y.fields name) xs ys
each_same name same [] [] all = tt
each_same name same [] (y ∷ ys) all = absurd all
each_same name same (x ∷ xs) [] all = absurd all
each_same name same (x ∷ xs) (y ∷ ys) all = (same x y all.0, each_same name same xs ys all.1)

module _ (one other : EntryTexts) (same : HaveSameDate one other) (xs ys : List EntryTexts) (all : AllZip HaveSameDate xs ys) where
  date_for_same : date_for one xs ≡ date_for other ys
  date_for_same =
      ap (λ b. cond b (last_date xs) None) (looks_alike one other same) ∙ ap (λ o. cond (looks_for_date other) o None)
      (last_same xs ys all)

  field_same : (name : List ℕ) → IsOfferedAlone name → one.fields name ≡ other.fields name
      → ((x y : EntryTexts) → HaveSameDate x y → x.fields name ≡ y.fields name)
      → (with_inherited_fields one xs).fields name ≡ (with_inherited_fields other ys).fields name
  field_same name alone is each =
      ap (λ d. field_by d one.fields (λ n. inherited_field one.entry_type n xs) name) date_for_same
      ∙ by_date (date_for other ys)
      (ap (λ type. inherited_field type name xs) same.kind
      ∙ inherited_date_field other.entry_type name alone xs ys (each_same name each xs ys all))
    where
      by_date : (d : Option (List Atom)) → inherited_field one.entry_type name xs ≡ inherited_field other.entry_type name ys
          → field_by d one.fields (λ n. inherited_field one.entry_type n xs) name
          ≡ field_by d other.fields (λ n. inherited_field other.entry_type n ys) name
      by_date None offered =
          ap (λ o. cond (bytes_eq name (codes "xdata")) None (first_some o (inherited_field one.entry_type name xs))) is
          ∙ ap (λ o. cond (bytes_eq name (codes "xdata")) None (first_some (other.fields name) o)) offered
      by_date (Some d) offered =
          ap
          (λ o.
          cond (bytes_eq name (codes "date")) (Some d)
          (cond (is_one_of date_parts name) None (cond (bytes_eq name (codes "xdata")) None (first_some o
          (inherited_field one.entry_type name xs)))))
          is
          ∙ ap
          (λ o.
          cond (bytes_eq name (codes "date")) (Some d)
          (cond (is_one_of date_parts name) None (cond (bytes_eq name (codes "xdata")) None (first_some (other.fields name) o)))) offered

  -- entries with the same dates that inherit from entries with the same dates have the same dates
  pub dates_inherited : HaveSameDate (with_inherited_fields one xs) (with_inherited_fields other ys)
  dates_inherited = record {
    kind = same.kind;
    date = field_same (codes "date") (record { journal = refl; book = refl; main = refl; meaning = refl }) same.date (λ x y s. s.date);
    year = field_same (codes "year") (record { journal = refl; book = refl; main = refl; meaning = refl }) same.year (λ x y s. s.year);
    month = field_same (codes "month") (record { journal = refl; book = refl; main = refl; meaning = refl }) same.month
        (λ x y s. s.month);
    day = field_same (codes "day") (record { journal = refl; book = refl; main = refl; meaning = refl }) same.day (λ x y s. s.day);
  }
