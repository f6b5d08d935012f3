-- The names that a file uses are names of the file.
use Rattle.std.proofs.Common.{◌≡◌, ℕ, List, [], ◌∷◌, ◌++◌, true, reverse, refl, sym, ap, ◌∙◌, subst, inl, inr, Some, None, Option, option_map}
use Rattle.std.specs.Prelude.{◌||◌, bytes_eq, find}
use Rattle.std.specs.List.{AllByRecursion, flat_map}
use Rattle.std.proofs.lemmas.List.{reverse-append}
use Rattle.std.proofs.lemmas.List.Folds.{list_any-append}
use Rattle.std.proofs.lemmas.Bool.{or_right}
use Rattle.bib_abbreviations.specs.Abbreviations.{HoldsName}
use Rattle.bib_file_entries.specs.Loaded.{definition_in}
use Rattle.bib_syntax.specs.Grammar.{is_word}
use Rattle.bib_syntax.specs.Reading.{EntryReading, FieldReading, FileReading, Piece}
use Rattle.bib_syntax.specs.Reading.Piece.{abbreviation, literal}
use Rattle.bib_text.proofs.ListFacts.{all_append, some_same, found_has, all_reverse}
use Rattle.edit_laws.proofs.DefinedFacts.{own_word}
use Rattle.edit_strings.specs.Collected.{definition_names, element_names, is_one_in_any_case, names_of_file, used_names}
use Rattle.edit_strings.specs.Expanded.{elements}

module _ (says : FileReading) where
  abbrev pub InFile : List ℕ → Type 0
  InFile name = is_one_in_any_case (names_of_file says) name ≡ true

  held_listed : (ps : List Piece) (name : List ℕ) → HoldsName ps name → is_one_in_any_case (element_names ps) name ≡ true
  held_listed [] name held = absurd held
  held_listed (literal p ∷ ps) name held = held_listed ps name held
  held_listed (abbreviation p ∷ ps) name (inl is) =
      ap (λ b. b || is_one_in_any_case (element_names ps) name) (subst (λ n. is_word p.text n ≡ true) is (own_word p.text))
  held_listed (abbreviation p ∷ ps) name (inr held) = or_right (is_word p.text name) _ (held_listed ps name held)

  left_listed : (xs ys : List (List ℕ)) (name : List ℕ) → is_one_in_any_case xs name ≡ true → is_one_in_any_case (xs ++ ys) name ≡ true
  left_listed xs ys name is = list_any-append (λ o. is_word o name) xs ys ∙ ap (λ b. b || is_one_in_any_case ys name) is

  pub right_listed : (xs ys : List (List ℕ)) (name : List ℕ) → is_one_in_any_case ys name ≡ true → is_one_in_any_case (xs ++ ys) name ≡ true
  right_listed xs ys name is = list_any-append (λ o. is_word o name) xs ys ∙ or_right (is_one_in_any_case xs name) _ is

  uses_in : (fs : List FieldReading) → ((name : List ℕ) → is_one_in_any_case (used_names fs) name ≡ true → InFile name)
      → AllByRecursion (λ f. (name : List ℕ) → HoldsName (elements f) name → InFile name) fs
  uses_in [] inside = _
  uses_in (f ∷ fs) inside = (
    λ name held. inside name (left_listed (element_names (elements f)) (used_names fs) name (held_listed (elements f) name held)),
    uses_in fs (λ name listed. inside name (right_listed (element_names (elements f)) (used_names fs) name listed)),
  )

  pub entries_in : (es : List EntryReading)
      → ((name : List ℕ) → is_one_in_any_case (flat_map (λ e. used_names e.fields) es) name ≡ true → InFile name)
      → AllByRecursion (λ e. AllByRecursion (λ f. (name : List ℕ) → HoldsName (elements f) name → InFile name) e.fields) es
  entries_in [] inside = _
  entries_in (e ∷ es) inside = (
    uses_in e.fields (λ name listed. inside name (left_listed (used_names e.fields) (flat_map (λ e. used_names e.fields) es) name listed)),
    entries_in es (λ name listed. inside name (right_listed (used_names e.fields) (flat_map (λ e. used_names e.fields) es) name listed)),
  )

  definitions_in : (fs : List FieldReading) → ((name : List ℕ) → is_one_in_any_case (definition_names fs) name ≡ true → InFile name)
      → AllByRecursion (λ f. (name : List ℕ) → HoldsName (elements f) name → InFile name) fs
  definitions_in [] inside = _
  definitions_in (f ∷ fs) inside = (
    λ name held.
        inside name
        (left_listed (f.name.text ∷ element_names (elements f)) (definition_names fs) name
        (or_right (is_word f.name.text name) _ (held_listed (elements f) name held))),
    definitions_in fs
        (λ name listed. inside name (right_listed (f.name.text ∷ element_names (elements f)) (definition_names fs) name listed)),
  )

  pub definitions_closed : (name : List ℕ) (definition : List Piece) → definition_in says.abbreviations name ≡ Some definition
      → (next : List ℕ) → HoldsName definition next → InFile next
  definitions_closed name definition is next held =
      by_found (find (λ f. bytes_eq name f.name.text) (reverse says.abbreviations)) refl is
    where
      by_found : (o : Option FieldReading) → find (λ f. bytes_eq name f.name.text) (reverse says.abbreviations) ≡ o
          → option_map elements o ≡ Some definition → InFile next
      by_found None found none = cc
      by_found (Some f) found some =
          found_has (λ f. (name : List ℕ) → HoldsName (elements f) name → InFile name) (λ f. bytes_eq name f.name.text)
          (reverse says.abbreviations) f
          (all_reverse (λ f. (name : List ℕ) → HoldsName (elements f) name → InFile name) says.abbreviations
          (definitions_in says.abbreviations
          (λ n listed.
          left_listed (definition_names says.abbreviations) (flat_map (λ e. used_names e.fields) says.entries) n listed)))
          found next (subst (λ ps. HoldsName ps next) (sym (some_same some)) held)
