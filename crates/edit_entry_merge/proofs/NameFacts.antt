-- Fields by their names: a map with the first field of each name, and fields whose names differ.
use Rattle.std.proofs.Common.{◌≡◌, ℕ, Bool, true, false, cond, not, List, [], ◌∷◌, ◌++◌, refl, sym, ap, ◌∙◌, is_some, Option, Some, None}
use Rattle.std.specs.Prelude.{String, ◌&&◌, ◌||◌, bytes_eq}
use Rattle.std.specs.Borrow.{Bor}
use Rattle.std.specs.BTreeMap.{BTreeMap, get_by_text}
use Rattle.std.specs.List.{find, list_any}
use Rattle.std.specs.Option.{option_or}
use Rattle.std.specs.Str.{str_to_ascii_lowercase}
use Rattle.std.proofs.lemmas.List.Folds.{find-append}
use Rattle.std.proofs.lemmas.Slice.Eq.{bytes_eq-Decides}
use Rattle.bib_text.proofs.OptionFacts.{some_mapped, mapped_cond, or_none}
use Rattle.bib_syntax.specs.Reading.{FieldReading}
use Rattle.bib_syntax.specs.Views.{field_of}
use Rattle.bib_syntax.specs.declared.raw.Pair.{Pair}
use Rattle.edit_entries.specs.Documents.{has_name}
use Rattle.edit_entry_merge.specs.Versions.{have_distinct_names}
use Rattle.edit_entry_merge.specs.Working.{AddsFirst, HasFirst, field_by_name, is_new, lent_field}

-- ---- maps

had : {A : Type 0} (o p : Option A) → is_some o ≡ true → o ≡ option_or o p
had (Some x) p some = refl
had None p some = absurd (cc)

new_one : {A : Type 0} (o p : Option A) → is_some o ≡ false → p ≡ option_or o p
new_one None p none = refl
new_one (Some x) p none = absurd (cc)

-- a map that has a field for a name keeps it
pub first_kept : {A : Type 0} (fields : BTreeMap (String A) (Bor Pair)) (f : FieldReading) (low : List ℕ)
    → low ≡ str_to_ascii_lowercase f.name.text → is_some (get_by_text fields low) ≡ true → AddsFirst fields f fields
first_kept fields f low is there = λ name. by_case name (has_name name f) refl
  where
    by_case : (name : List ℕ) (b : Bool) → has_name name f ≡ b → field_by_name fields name
        ≡ option_or (field_by_name fields name) (cond b (Some f) None)
    by_case name true same =
        had (field_by_name fields name) (Some f)
        (some_mapped (λ (p : Bor Pair). field_of p.now) (get_by_text fields (str_to_ascii_lowercase name))
        ∙ ap (λ l. is_some (get_by_text fields l))
        (sym ((bytes_eq-Decides (str_to_ascii_lowercase f.name.text) (str_to_ascii_lowercase name)).0 same) ∙ sym is)
        ∙ there)
    by_case name false other = sym (or_none (field_by_name fields name))

-- a map without a field for a name gets one
pub first_added : {A : Type 0} (old new : BTreeMap (String A) (Bor Pair)) (p : Bor Pair) (low : List ℕ)
    → low ≡ str_to_ascii_lowercase (field_of p.now).name.text → is_some (get_by_text old low) ≡ false
    → ((name : List ℕ) → get_by_text new name ≡ cond (bytes_eq low name) (Some p) (get_by_text old name))
    → AddsFirst old (field_of p.now) new
first_added old new p low is none added = λ name.
    let f : FieldReading = field_of p.now in
    let lower = str_to_ascii_lowercase name in
    ap lent_field (added lower)
    ∙ mapped_cond (λ (q : Bor Pair). field_of q.now) (bytes_eq low lower) p (get_by_text old lower)
    ∙ ap (λ l. cond (bytes_eq l lower) (Some f) (field_by_name old name)) is
    ∙ by_case name (has_name name f) refl
  where
    by_case : (name : List ℕ) (b : Bool) → has_name name (field_of p.now) ≡ b
        → cond b (Some (field_of p.now)) (field_by_name old name) ≡ option_or (field_by_name old name) (cond b (Some (field_of p.now)) None)
    by_case name true same =
        new_one (field_by_name old name) (Some (field_of p.now))
        (some_mapped (λ (q : Bor Pair). field_of q.now) (get_by_text old (str_to_ascii_lowercase name))
        ∙ ap (λ l. is_some (get_by_text old l))
        (sym ((bytes_eq-Decides (str_to_ascii_lowercase (field_of p.now).name.text) (str_to_ascii_lowercase name)).0 same) ∙ sym is)
        ∙ none)
    by_case name false other = sym (or_none (field_by_name old name))

-- after one more field is added, a map has the first of the fields with it
pub first_more : {A : Type 0} (old new : BTreeMap (String A) (Bor Pair)) (fs : List FieldReading) (f : FieldReading)
    → HasFirst old fs → AddsFirst old f new → HasFirst new (fs ++ f ∷ [])
first_more old new fs f has added = λ name.
    added name ∙ ap (λ o. option_or o (cond (has_name name f) (Some f) None)) (has name)
    ∙ sym (find-append (has_name name) fs (f ∷ []))

-- ---- distinct names

-- no field is found exactly if none passes the test
new_is : (test : FieldReading → Bool) (fs : List FieldReading) → is_new (find test fs) ≡ not (list_any test fs)
new_is test [] = refl
new_is test (f ∷ fs) = by_case (test f) (new_is test fs)
  where
    by_case : (b : Bool) → is_new (find test fs) ≡ not (list_any test fs)
        → is_new (cond b (Some f) (find test fs)) ≡ not (b || list_any test fs)
    by_case true rest = refl
    by_case false rest = rest

any_more : (test : FieldReading → Bool) (fs : List FieldReading) (g : FieldReading) → list_any test (fs ++ g ∷ [])
    ≡ (list_any test fs || test g)
any_more test [] g = by_case (test g)
  where
    by_case : (b : Bool) → (b || false) ≡ b
    by_case true = refl
    by_case false = refl
any_more test (f ∷ fs) g = by_case (test f) (any_more test fs g)
  where
    by_case : (b : Bool) → list_any test (fs ++ g ∷ []) ≡ (list_any test fs || test g)
        → (b || list_any test (fs ++ g ∷ [])) ≡ ((b || list_any test fs) || test g)
    by_case true rest = refl
    by_case false rest = rest

distinct_step : (others : Bool) (new : Bool) (more : Bool) (rest : Bool) → (not (others || new) && (rest && more))
    ≡ ((not others && rest) && (not new && more))
distinct_step true new more rest = refl
distinct_step false true more true = refl
distinct_step false true more false = refl
distinct_step false false more rest = refl

-- the names of fields and of one more are distinct exactly if those of the fields are and none of them has its name
distinct_more : (fs : List FieldReading) (g : FieldReading)
    → have_distinct_names (fs ++ g ∷ []) ≡ (have_distinct_names fs && not (list_any (has_name g.name.text) fs))
distinct_more [] g = refl
distinct_more (f ∷ fs) g =
    ap (λ b. not b && have_distinct_names (fs ++ g ∷ [])) (any_more (λ h. has_name h.name.text f) fs g)
    ∙ ap (λ b. not (list_any (λ h. has_name h.name.text f) fs || has_name g.name.text f) && b) (distinct_more fs g)
    ∙ distinct_step (list_any (λ h. has_name h.name.text f) fs) (has_name g.name.text f) (not (list_any (has_name g.name.text) fs))
    (have_distinct_names fs)
    ∙ ap (λ b. (not (list_any (λ h. has_name h.name.text f) fs) && have_distinct_names fs) && b)
    (both (has_name g.name.text f) (list_any (has_name g.name.text) fs))
  where
    both : (b c : Bool) → (not b && not c) ≡ not (b || c)
    both true c = refl
    both false c = refl

pub distinct_next : {A : Type 0} (names : BTreeMap (String A) (Bor Pair)) (fs : List FieldReading) (g : FieldReading) (are new : Bool)
    → HasFirst names fs → are ≡ have_distinct_names fs → new ≡ is_new (field_by_name names g.name.text)
    → (are && new) ≡ have_distinct_names (fs ++ g ∷ [])
distinct_next names fs g are new has known is =
    ap (λ b. b && new) known
    ∙ ap (λ b. have_distinct_names fs && b) (is ∙ ap is_new (has g.name.text) ∙ new_is (has_name g.name.text) fs)
    ∙ sym (distinct_more fs g)
