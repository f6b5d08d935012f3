-- Searching for the first entry with an unreadable date.
use Rattle.std.proofs.Common.{◌≡◌, ℕ, zero, suc, ◌+◌, ◌<◌, List, [], ◌∷◌, Bool, true, false, cond, ◌||◌, length, get_or, take, refl, sym, ap, ◌∙◌, subst, arith, Option, Some, None}
use Rattle.std.specs.Prelude.{IsSome, find}
use Rattle.std.specs.List.{list_any}
use Rattle.std.specs.FinMap as by_name
use Rattle.std.proofs.lemmas.Bool.{false≢true, or_from}
use Rattle.std.proofs.lemmas.List.Folds.{list_any_more}
use Rattle.bib_entry.specs.declared.entry.Entry.{Entry}
use Rattle.bib_tables.specs.declared.type_error.TypeError.{TypeError}
use Rattle.bib_inheritance.specs.InheritableDate.{DateMayFail, IsPlaceOfDate, is_unreadable}
use Rattle.bib_inheritance.specs.EntryTexts.{EntryTexts}
use Rattle.bib_inheritance.specs.declared.inheritable_date.InheritableDate.{InheritableDate as Kept}
use Rattle.bib_inheritance.specs.declared.inheritable_date.InheritableDate.TheVariants.{Undated, Unreadable, Dated}
use Rattle.bib_inheritance.specs.Resolving.{at_index, is_bad_date, texts_of_entries}
use Rattle.bib_inheritance.specs.Turning.{AreDates, Dates, IsUnreadDate, date_at, error_in}
use Rattle.bib_text.proofs.ListFacts.{some_same}

-- if no element so far passes a test, and the next one fails it, none up to the next one passes it
pub any_more : {A : Type 0} (test : A → Bool) (xs : List A) (i : ℕ) (d : A) → i < length xs
    → test (get_or xs i d) ≡ false → list_any test (take i xs) ≡ false → list_any test (take (i + 1) xs) ≡ false
any_more test xs i d within not_here none =
    list_any_more test xs i d within ∙ or_from (list_any test (take i xs)) (test (get_or xs i d)) none not_here

-- an element that passes a test is the first such one if none before it passes
pub find_here : {A : Type 0} (test : A → Bool) (xs : List A) (i : ℕ) (d : A) → i < length xs
    → list_any test (take i xs) ≡ false → test (get_or xs i d) ≡ true → find test xs ≡ Some (get_or xs i d)
find_here test [] i d within none here = absurd (omega (arith, within))
find_here test (x ∷ xs) zero d within none here = ap (λ b. cond b (Some x) (find test xs)) here
find_here test (x ∷ xs) (suc i) d within none here =
    following (test x) (list_any test (take i xs)) none (find_here test xs i d (omega (arith, within))) here where
      following : (b c : Bool) → (b || c) ≡ false
          → (c ≡ false → test (get_or xs i d) ≡ true → find test xs ≡ Some (get_or xs i d)) → test (get_or xs i d) ≡ true
          → cond b (Some x) (find test xs) ≡ Some (get_or xs i d)
      following true c none rest here = absurd (false≢true (sym none))
      following false c none rest here = rest none here

-- Suppose that none of the first `i` indices has an unreadable date. An error cached at the next index is then the first one
-- (`unread_here`). If a date without an error is cached there, none of the first `i + 1` indices has an unreadable date (`read_here`).
module _ (entries : List Entry) (dates : Dates) (indices : List ℕ) (i : ℕ) (within : i < length indices)
    (are : AreDates entries dates) (none : list_any (is_bad_date (texts_of_entries entries)) (take i indices) ≡ false)
  where
    abbrev values : List EntryTexts
    values = texts_of_entries entries

    abbrev p : ℕ
    p = get_or indices i 0

    pub unread_here : (error : TypeError) → error_in (date_at dates p) ≡ Some error → IsUnreadDate entries indices error
    unread_here error is = go (date_at dates p) refl is where
      go : (o : Option Kept) → date_at dates p ≡ o → error_in o ≡ Some error → IsUnreadDate entries indices error
      go None there is = cc
      go (Some Undated) there is = cc
      go (Some (Dated chunks)) there is = cc
      go (Some (Unreadable found)) there is =
          let bad = are p (Unreadable found) there in
          record {
            reference = p;
            first = find_here (is_bad_date values) indices i 0 within none (ap is_unreadable bad.is.0);
            may = subst (λ (f : TypeError). DateMayFail (at_index values p).fields f.kind) (some_same is) bad.is.1;
            entry = bad.entry;
            there = bad.there;
            lies = subst (λ (f : TypeError). IsPlaceOfDate (by_name.get bad.entry.fields) f.span) (some_same is) bad.lies;
          }

    pub read_here : IsSome (date_at dates p) → error_in (date_at dates p) ≡ None
        → list_any (is_bad_date values) (take (i + 1) indices) ≡ false
    read_here was is = any_more (is_bad_date values) indices i 0 within (go (date_at dates p) refl was is) none where
      go : (o : Option Kept) → date_at dates p ≡ o → IsSome o → error_in o ≡ None → is_bad_date values p ≡ false
      go None there was is = absurd (false≢true was)
      go (Some Undated) there was is = ap is_unreadable (are p Undated there).is
      go (Some (Dated chunks)) there was is = ap is_unreadable (are p (Dated chunks) there).is
      go (Some (Unreadable found)) there was is = cc
