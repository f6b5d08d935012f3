-- Facts about new names of references.
use Rattle.std.proofs.Common.{◌≡◌, ℕ, suc, Bool, List, [], ◌∷◌, ◌++◌, Option, Some, None, codes, map, refl, ap, ap₂, ◌∙◌, if◌then◌else◌}
use Rattle.std.specs.Prelude.{is_some, option_and_then}
use Rattle.std.specs.Option.{option_map_or, option_or}
use Rattle.std.specs.Str.{trim}
use Rattle.bib_text.proofs.ListFacts.{any_same}
use Rattle.bib_tables.specs.ReferenceFields.{is_reference_field}
use Rattle.bib_syntax.specs.Grammar.{is_word}
use Rattle.bib_syntax.specs.Reading.{EntryReading, FieldReading, Piece}
use Rattle.bib_syntax.specs.Reading.Piece.{abbreviation, literal}
use Rattle.edit_entries.specs.Documents.{first_position, is_keyed}
use Rattle.edit_entries.specs.NewKeys.{index_for, index_for_word, index_in_names, key_for, name_for}
use Rattle.edit_entries.specs.References.{between_white, elements_of, has_alias, has_key_word, is_renamed, key_change, key_renaming, new_reference, reference_changes, renamed_element, renamed_list, renamed_text, renamed_value, renamed_where_listed, renaming, unless_other, value_change}
use Rattle.edit_entries.specs.declared.new_keys.Names.{Names}
use Rattle.edit_entries.specs.declared.new_keys.NewKeys.{NewKeys}
use Rattle.edit_entries.proofs.ReferenceFacts.{join_read}

-- ---- new names that agree

module _ (f g : List ℕ → Option (List ℕ)) (same : (name : List ℕ) → f name ≡ g name) where
  element_same : (element : List ℕ) → renamed_element f element ≡ renamed_element g element
  element_same element = ap (λ o. option_map_or (λ new. between_white new element) o element) (same (trim element))

  elements_same : (elements : List (List ℕ)) → map (renamed_element f) elements ≡ map (renamed_element g) elements
  elements_same [] = refl
  elements_same (e ∷ es) = ap₂ (λ x xs. x ∷ xs) (element_same e) (elements_same es)

  list_same : (list : List ℕ) → renamed_list f list ≡ renamed_list g list
  list_same list =
      join_read (renamed_element f) (renamed_element g) (44 ∷ []) (elements_of list) (elements_of list) (elements_same (elements_of list))

  listed_same : (list : List ℕ) → renamed_where_listed f list ≡ renamed_where_listed g list
  listed_same list =
      ap₂ (λ b l. if b then Some l else None)
      (any_same (is_renamed f) (is_renamed g) (λ e. ap is_some (same (trim e))) (elements_of list)) (list_same list)

  text_same : (pieces : List Piece) → renamed_text f pieces ≡ renamed_text g pieces
  text_same [] = refl
  text_same (abbreviation p ∷ rest) = refl
  text_same (literal p ∷ []) = listed_same p.text
  text_same (literal p ∷ other ∷ rest) = refl

module _ (f g : List ℕ → List ℕ → Option (List ℕ)) (same : (field name : List ℕ) → f field name ≡ g field name)
    (keys : ℕ → Option (List ℕ)) where
  value_same : (x : FieldReading) → renamed_value f x ≡ renamed_value g x
  value_same x =
      ap (λ t. if is_reference_field x.name.text then t else None)
      (text_same (f x.name.text) (g x.name.text) (same x.name.text) x.value.pieces)

  references_same : (fields : List FieldReading) → reference_changes f fields ≡ reference_changes g fields
  references_same [] = refl
  references_same (x ∷ xs) = ap₂ (λ o l. value_change x o ++ l) (value_same x) (references_same xs)

  pub renaming_same : (index : ℕ) (entries : List EntryReading) → renaming f keys index entries ≡ renaming g keys index entries
  renaming_same index [] = refl
  renaming_same index (e ∷ es) =
      ap₂ (λ l m. (key_change (keys index) e ++ l) ++ m) (references_same e.fields) (renaming_same (suc index) es)

-- the changes by the names that a lookup finds are those by `new_reference`, if the lookup agrees with it
pub renaming_by : (names : Names) (keys : NewKeys) (entries : List EntryReading) → names.keys ≡ keys
    → ((field name : List ℕ) → name_for names field name ≡ new_reference entries (key_for keys) field name)
    → renaming (name_for names) (key_for names.keys) 0 entries ≡ key_renaming (key_for keys) entries
renaming_by names keys entries own same =
    ap (λ k. renaming (name_for names) (key_for k) 0 entries) own
    ∙ renaming_same (name_for names) (new_reference entries (key_for keys)) same (key_for keys) 0 entries

-- a lookup of a name finds its new key if the maps contain the indices of all keys and names
pub name_known : (names : Names) (entries : List EntryReading) (keys : NewKeys) (field name : List ℕ) → names.keys ≡ keys
    → index_for names.exact name ≡ first_position (is_keyed name) entries
    → index_for_word names.in_lowercase name ≡ first_position (has_key_word name) entries
    → index_for names.aliases name ≡ first_position (has_alias name) entries
    → map (λ k. k.now) names.texts.items ≡ map (λ e. e.key.text) entries
    → name_for names field name ≡ new_reference entries (key_for keys) field name
name_known names entries keys field name own exact words aliases texts =
    let crossref : Bool = is_word field (codes "crossref") in
    ap (λ k. option_and_then (key_for k) (index_in_names names field name)) own
    ∙ ap (option_and_then (key_for keys))
    (ap₂ (λ i o. option_or i (if crossref then o else None)) exact
    (ap (λ k. unless_other k (index_for_word names.in_lowercase name) (index_for names.aliases name)) texts
    ∙ ap₂ (unless_other (map (λ e. e.key.text) entries)) words aliases))
