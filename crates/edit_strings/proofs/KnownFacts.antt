-- Definitions that can be reused: how often names are defined, and the first definition for each text.
use Rattle.std.proofs.Common.{◌≡◌, ℕ, ◌+◌, Bool, true, false, cond, List, [], ◌∷◌, ◌++◌, refl, sym, ap, ◌∙◌, arith, Option, Some, None}
use Rattle.std.specs.Prelude.{bytes_eq, count_by, is_some}
use Rattle.std.specs.List.{find}
use Rattle.std.specs.Option.{option_map, option_map_or, option_or}
use Rattle.std.specs.Str.{str_to_ascii_lowercase}
use Rattle.std.proofs.lemmas.List.Folds.{find-append}
use Rattle.std.proofs.lemmas.Slice.Eq.{bytes_eq-Decides}
use Rattle.bib_text.proofs.ListFacts.{count_more}
use Rattle.bib_syntax.specs.Reading.{FieldReading, FileReading}
use Rattle.edit_entries.specs.Documents.{has_name}
use Rattle.edit_strings.specs.Collected.{is_reusable, reusable_text}
use Rattle.edit_strings.specs.Collecting.{learned}

-- the count of a name after one more definition
pub counted_name : (name : List ℕ) (fs : List FieldReading) (f : FieldReading) (old : Option ℕ) (count : ℕ)
    → count ≡ count_by (has_name f.name.text) fs → option_map_or (λ n. n) old 0 ≡ count_by (has_name name) fs
    → option_map_or (λ n. n) (cond (bytes_eq (str_to_ascii_lowercase f.name.text) (str_to_ascii_lowercase name)) (Some (count + 1)) old) 0
    ≡ count_by (has_name name) (fs ++ f ∷ [])
counted_name name fs f old count counted before =
    by_case (bytes_eq (str_to_ascii_lowercase f.name.text) (str_to_ascii_lowercase name)) refl ∙ sym (count_more (has_name name) fs f)
  where
    -- names that are equal in ASCII lowercase have the same count
    same_counts : (gs : List FieldReading) → str_to_ascii_lowercase f.name.text ≡ str_to_ascii_lowercase name
        → count_by (has_name f.name.text) gs ≡ count_by (has_name name) gs
    same_counts gs same = ap (λ lower. count_by (λ g. bytes_eq (str_to_ascii_lowercase g.name.text) lower) gs) same

    by_case : (b : Bool) → bytes_eq (str_to_ascii_lowercase f.name.text) (str_to_ascii_lowercase name) ≡ b
        → option_map_or (λ n. n) (cond b (Some (count + 1)) old) 0 ≡ count_by (has_name name) fs + cond b 1 0
    by_case true is =
        let same : str_to_ascii_lowercase f.name.text ≡ str_to_ascii_lowercase name =
        (bytes_eq-Decides (str_to_ascii_lowercase f.name.text) (str_to_ascii_lowercase name)).0 is in
        ap (λ n. n + 1) (counted ∙ same_counts fs same)
    by_case false is = let none : count_by (has_name name) fs ≡ count_by (has_name name) fs + 0 = omega arith in before ∙ none

-- after one more definition, a text has its learned name
pub learned_more : (says : FileReading) (text : List ℕ) (fs : List FieldReading) (f : FieldReading) (own : Option (List ℕ))
    → own ≡ reusable_text says f
    → learned (option_map (λ g. g.name.text) (find (is_reusable says text) fs)) own f text
    ≡ option_map (λ g. g.name.text) (find (is_reusable says text) (fs ++ f ∷ []))
learned_more says text fs f own is =
    by_case (find (is_reusable says text) fs) own is
    ∙ sym (ap (option_map (λ g. g.name.text)) (find-append (is_reusable says text) fs (f ∷ [])))
  where
    by_case : (found : Option FieldReading) (own : Option (List ℕ)) → own ≡ reusable_text says f
        → learned (option_map (λ g. g.name.text) found) own f text
        ≡ option_map (λ g. g.name.text) (option_or found (cond (is_reusable says text f) (Some f) None))
    by_case (Some g) own is = refl
    by_case None None is =
        ap (λ o. option_map (λ g. g.name.text) (cond (option_map_or (λ own. bytes_eq own text) o false) (Some f) None)) is
    by_case None (Some t) is =
        cases (bytes_eq t text)
        ∙ ap (λ o. option_map (λ g. g.name.text) (cond (option_map_or (λ own. bytes_eq own text) o false) (Some f) None)) is
      where
        cases : (b : Bool) → cond b (Some f.name.text) None ≡ option_map (λ g. g.name.text) (cond b (Some f) None)
        cases true = refl
        cases false = refl

-- if a map has a new name for a text only if the text had none, this is the learned name
pub learned_first : (old now : Option (List ℕ)) (own : List ℕ) (f : FieldReading) (text : List ℕ) → (own ≡ text → old ≡ None)
    → now ≡ cond (bytes_eq own text) (Some f.name.text) old → now ≡ learned old (Some own) f text
learned_first None now own f text unknown is = is
learned_first (Some name) now own f text unknown is = is ∙ by_case (bytes_eq own text) refl
  where
    by_case : (b : Bool) → bytes_eq own text ≡ b → cond b (Some f.name.text) (Some name) ≡ Some name
    by_case true same = let clash : Some name ≡ None = unknown ((bytes_eq-Decides own text).0 same) in absurd (cc)
    by_case false other = refl

pub no_name : {A B : Type 0} (view : A → B) (o : Option A) → is_some o ≡ false → option_map view o ≡ None
no_name view None none = refl
no_name view (Some x) none = absurd (cc)
