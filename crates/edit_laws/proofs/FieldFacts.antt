-- The last field with a name in an entry after a field is set or unset.
use Rattle.std.proofs.Common.{◌≡◌, ℕ, List, [], ◌∷◌, ◌++◌, Bool, true, false, cond, map, reverse, refl, sym, ap, ◌∙◌, subst, Some, None, Option, option_map}
use Rattle.std.specs.Prelude.{bytes_eq, find, not, ◌&&◌, ◌||◌}
use Rattle.std.specs.Cmp.Lexicographic.{nat_list_eq_equiv}
use Rattle.std.specs.List.{AllByRecursion, filter, list_any}
use Rattle.std.specs.Option.{option_or}
use Rattle.std.specs.Str.{str_to_ascii_lowercase}
use Rattle.std.proofs.lemmas.List.Folds.{list_any-append}
use Rattle.std.proofs.lemmas.Slice.Eq.{bytes_eq-Decides}
use Rattle.bib_text.proofs.OptionFacts.{or_none}
use Rattle.bib_text.proofs.BytesFacts.{bytes_itself}
use Rattle.bib_abbreviations.specs.Abbreviations.{Definitions, IsReadable}
use Rattle.bib_file_entries.specs.Loaded.{AllCanBeRead, field_in, name_of}
use Rattle.bib_syntax.specs.Reading.{FieldReading, Part, Piece}
use Rattle.bib_syntax.specs.Reading.Piece.{literal}
use Rattle.bib_tables.specs.VerbatimFields.{is_verbatim_field}
use Rattle.edit_entries.specs.Changes.{FieldChange, field_changed, field_reading, fields_changed}
use Rattle.edit_entries.specs.Documents.{has_name}
use Rattle.edit_entries.specs.Setting.{SetValue, field_with_value, has_other_value, is_same_value, new_value, set_change}
use Rattle.bib_text.proofs.ListFacts.{all_reverse}
use Rattle.bib_text.proofs.BoolFacts.{or_last}
use Rattle.edit_laws.proofs.FoundFacts.{find_failing, find_passing, reverse_filter, reverse_more}
use Rattle.edit_laws.proofs.ReorderedFacts.{field_append, named_alike}

-- pieces are one literal with a text
pub record IsText (pieces : List Piece) (text : List ℕ) : Type 0 where
  pub part : Part
  pub are : pieces ≡ literal part ∷ []
  pub is : part.text ≡ text

-- the last field with each other name is the same in both lists. The last one with this name in the second list has this text.
pub record IsFieldSet (fields changed : List FieldReading) (name text : List ℕ) : Type 0 where
  pub others : (other : List ℕ) → bytes_eq other name ≡ false → field_in changed other ≡ field_in fields other
  pub field : FieldReading
  pub here : field_in changed name ≡ Some field
  pub says : IsText field.value.pieces text

-- ---- searches

absent_go : (test : FieldReading → Bool) (fs : List FieldReading) → list_any test fs ≡ false → find test fs ≡ None
absent_go test [] none = refl
absent_go test (f ∷ fs) none = by_test (test f) none (absent_go test fs)
  where
    by_test : (b : Bool) → (b || list_any test fs) ≡ false → (list_any test fs ≡ false → find test fs ≡ None)
        → cond b (Some f) (find test fs) ≡ None
    by_test true is rest = cc
    by_test false is rest = rest is

present_go : (test : FieldReading → Bool) (fs : List FieldReading) → list_any test fs ≡ true → (f : FieldReading) ×
    (find test fs ≡ Some f)
present_go test [] any = cc
present_go test (f ∷ fs) any = by_test (test f) any (present_go test fs)
  where
    by_test : (b : Bool) → (b || list_any test fs) ≡ true → (list_any test fs ≡ true → (g : FieldReading) × (find test fs ≡ Some g))
        → (g : FieldReading) × (cond b (Some f) (find test fs) ≡ Some g)
    by_test true is rest = (f, refl)
    by_test false is rest = rest is

pub found_passes : (test : FieldReading → Bool) (fs : List FieldReading) (f : FieldReading) → find test fs ≡ Some f → test f ≡ true
found_passes test [] f is = cc
found_passes test (g ∷ fs) f is = by_test (test g) refl is (found_passes test fs f)
  where
    by_test : (b : Bool) → test g ≡ b → cond b (Some g) (find test fs) ≡ Some f → (find test fs ≡ Some f → test f ≡ true) → test f ≡ true
    by_test true passes here rest = let same : g ≡ f = cc in ap test (sym same) ∙ passes
    by_test false fails here rest = rest here

any_reversed : (test : FieldReading → Bool) (fs : List FieldReading) → list_any test (reverse fs) ≡ list_any test fs
any_reversed test [] = refl
any_reversed test (f ∷ fs) =
    ap (list_any test) (reverse_more f fs) ∙ list_any-append test (reverse fs) (f ∷ [])
    ∙ ap (λ b. b || (test f || false)) (any_reversed test fs) ∙ sym (or_last (test f) (list_any test fs))

same_tests : (name : List ℕ) (fs : List FieldReading)
    → list_any (λ f. bytes_eq (str_to_ascii_lowercase name) (name_of f)) fs ≡ list_any (has_name name) fs
same_tests name [] = refl
same_tests name (f ∷ fs) =
    ap (λ b. b || list_any (λ f. bytes_eq (str_to_ascii_lowercase name) (name_of f)) fs)
    (nat_list_eq_equiv.symm (str_to_ascii_lowercase name) (name_of f))
    ∙ ap (λ b. has_name name f || b) (same_tests name fs)

any_named : (name : List ℕ) (fs : List FieldReading)
    → list_any (λ f. bytes_eq (str_to_ascii_lowercase name) (name_of f)) (reverse fs) ≡ list_any (has_name name) fs
any_named name fs = any_reversed (λ f. bytes_eq (str_to_ascii_lowercase name) (name_of f)) fs ∙ same_tests name fs

-- if no field has a name, none is found by it in ASCII lowercase
pub absent : (name : List ℕ) (fs : List FieldReading) → list_any (has_name name) fs ≡ false
    → field_in fs (str_to_ascii_lowercase name) ≡ None
absent name fs none =
    absent_go (λ f. bytes_eq (str_to_ascii_lowercase name) (name_of f)) (reverse fs) (any_named name fs ∙ none)

-- if a field has a name, one is found by it in ASCII lowercase
present : (name : List ℕ) (fs : List FieldReading) → list_any (has_name name) fs ≡ true
    → (f : FieldReading) × (field_in fs (str_to_ascii_lowercase name) ≡ Some f)
present name fs any =
    present_go (λ f. bytes_eq (str_to_ascii_lowercase name) (name_of f)) (reverse fs) (any_named name fs ∙ any)

-- ---- mapped fields

reverse_map : (g : FieldReading → FieldReading) (fs : List FieldReading) → reverse (map g fs) ≡ map g (reverse fs)
reverse_map g [] = refl
reverse_map g (f ∷ fs) =
    reverse_more (g f) (map g fs) ∙ ap (λ l. l ++ g f ∷ []) (reverse_map g fs) ∙ sym (map_more (reverse fs)) ∙ ap (map g) (sym
    (reverse_more f fs))
  where
    map_more : (hs : List FieldReading) → map g (hs ++ f ∷ []) ≡ map g hs ++ g f ∷ []
    map_more [] = refl
    map_more (h ∷ hs) = ap (λ l. g h ∷ l) (map_more hs)

find_mapped : (test : FieldReading → Bool) (g : FieldReading → FieldReading) → ((f : FieldReading) → test (g f) ≡ test f)
    → (fs : List FieldReading) → find test (map g fs) ≡ option_map g (find test fs)
find_mapped test g same [] = refl
find_mapped test g same (f ∷ fs) =
    ap (λ b. cond b (Some (g f)) (find test (map g fs))) (same f)
    ∙ ap (λ o. cond (test f) (Some (g f)) o) (find_mapped test g same fs) ∙ by_test (test f)
  where
    by_test : (b : Bool) → cond b (Some (g f)) (option_map g (find test fs)) ≡ option_map g (cond b (Some f) (find test fs))
    by_test true = refl
    by_test false = refl

field_mapped : (g : FieldReading → FieldReading) → ((f : FieldReading) → name_of (g f) ≡ name_of f) → (fs : List FieldReading)
    (name : List ℕ) → field_in (map g fs) name ≡ option_map g (field_in fs name)
field_mapped g same fs name =
    ap (find (λ f. bytes_eq name (name_of f))) (reverse_map g fs)
    ∙ find_mapped (λ f. bytes_eq name (name_of f)) g (λ f. ap (bytes_eq name) (same f)) (reverse fs)

all_found : (P : FieldReading → Type 0) (test : FieldReading → Bool) (fs : List FieldReading) (f : FieldReading) → AllByRecursion P fs
    → find test fs ≡ Some f → P f
all_found P test [] f all is = cc
all_found P test (g ∷ fs) f all is = by_test (test g) is (all_found P test fs f all.1)
  where
    by_test : (b : Bool) → cond b (Some g) (find test fs) ≡ Some f → (find test fs ≡ Some f → P f) → P f
    by_test true here rest = let same : g ≡ f = cc in subst P same all.0
    by_test false here rest = rest here

-- ---- each field with a name gets a value

-- a field with other pieces
abbrev pub with_pieces : List Piece → FieldReading → FieldReading
with_pieces pieces f = record f { value = record f.value { pieces = pieces } }

module _ (name : List ℕ) (value : SetValue) (text : List ℕ) where
  -- a field after its value is set, if it has the name and another value
  abbrev set_field : FieldReading → FieldReading
  set_field f = cond (has_other_value name value f) (with_pieces (new_value value).pieces f) f

  pub fields_set : (fs : List FieldReading) → fields_changed fs (map (set_change name value) fs) ≡ map set_field fs
  fields_set [] = refl
  fields_set (f ∷ fs) = by_case (has_other_value name value f) ∙ ap (λ gs. set_field f ∷ gs) (fields_set fs)
    where
      rest : List FieldReading
      rest = fields_changed fs (map (set_change name value) fs)

      by_case : (b : Bool)
          → field_changed f (cond b (FieldChange.valued (new_value value)) FieldChange.kept) ++ rest
          ≡ cond b (with_pieces (new_value value).pieces f) f ∷ rest
      by_case true = refl
      by_case false = refl

  name_kept : (f : FieldReading) → name_of (set_field f) ≡ name_of f
  name_kept f = by_case (has_other_value name value f)
    where
      by_case : (b : Bool) → name_of (cond b (with_pieces (new_value value).pieces f) f) ≡ name_of f
      by_case true = refl
      by_case false = refl

  other_kept : (f : FieldReading) → has_name name f ≡ false → set_field f ≡ f
  other_kept f other =
      ap (λ b. cond (b && not (is_same_value value f.value.pieces)) (with_pieces (new_value value).pieces f) f) other

  -- a field that has the value already has its text
  abbrev pub HasTextAlready : FieldReading → Type 0
  HasTextAlready f = is_same_value value f.value.pieces ≡ true → IsText f.value.pieces text

  set_says : (f : FieldReading) → IsText (new_value value).pieces text → HasTextAlready f → has_name name f ≡ true
      → IsText (set_field f).value.pieces text
  set_says f new already named = by_case (is_same_value value f.value.pieces) refl
    where
      by_case : (b : Bool) → is_same_value value f.value.pieces ≡ b → IsText (set_field f).value.pieces text
      by_case true is =
          let other : has_other_value name value f ≡ false = ap (λ b. b && not (is_same_value value f.value.pieces)) named ∙ ap not is in
          subst (λ b. IsText (cond b (with_pieces (new_value value).pieces f) f).value.pieces text) (sym other) (already is)
      by_case false is =
          let other : has_other_value name value f ≡ true = ap (λ b. b && not (is_same_value value f.value.pieces)) named ∙ ap not is in
          subst (λ b. IsText (cond b (with_pieces (new_value value).pieces f) f).value.pieces text) (sym other) new

  others_kept : (fs : List FieldReading) (other : List ℕ) → bytes_eq other (str_to_ascii_lowercase name) ≡ false
      → field_in (map set_field fs) other ≡ field_in fs other
  others_kept fs other apart = field_mapped set_field name_kept fs other ∙ by_found (field_in fs other) refl
    where
      by_found : (o : Option FieldReading) → field_in fs other ≡ o → option_map set_field o ≡ o
      by_found None is = refl
      by_found (Some f) is =
          let passes : bytes_eq other (name_of f) ≡ true = found_passes (λ g. bytes_eq other (name_of g)) (reverse fs) f is in
          ap Some (other_kept f (named_alike name other f passes ∙ apart))

  -- after each field with a name gets a value that is a text, the last of them has this text; other names keep their last fields. This
  -- holds if a field has the name, and each field that already has the value has this text
  pub values_are_set : (fs : List FieldReading) → list_any (has_name name) fs ≡ true → IsText (new_value value).pieces text
      → AllByRecursion HasTextAlready fs → IsFieldSet fs (map set_field fs) (str_to_ascii_lowercase name) text
  values_are_set fs any new already =
      let found = present name fs any in
      let test : FieldReading → Bool = λ g. bytes_eq (str_to_ascii_lowercase name) (name_of g) in
      let passes : bytes_eq (str_to_ascii_lowercase name) (name_of found.0) ≡ true = found_passes test (reverse fs) found.0 found.1 in
      record {
        others = others_kept fs;
        field = set_field found.0;
        here = field_mapped set_field name_kept fs (str_to_ascii_lowercase name) ∙ ap (option_map set_field) found.1;
        says = set_says found.0 new (all_found HasTextAlready test (reverse fs) found.0 (all_reverse HasTextAlready fs already) found.1)
            (named_alike name (str_to_ascii_lowercase name) found.0 passes ∙ bytes_itself (str_to_ascii_lowercase name));
      }

  -- ---- a new field

  -- a new field before others, none of which has its name, has the text of its value, if the value is a text
  pub new_is_set : (fs : List FieldReading) → list_any (has_name name) fs ≡ false → IsText (new_value value).pieces text
      → IsFieldSet fs (field_reading (field_with_value name value) ∷ fs) (str_to_ascii_lowercase name) text
  new_is_set fs none new =
      let f : FieldReading = field_reading (field_with_value name value) in
      let n : List ℕ = str_to_ascii_lowercase name in
      record {
        others = λ other apart.
            field_append (f ∷ []) fs other
            ∙ ap (λ b. option_or (field_in fs other) (cond b (Some f) None)) apart ∙ or_none (field_in fs other);
        field = f;
        here =
            field_append (f ∷ []) fs n ∙ ap (λ o. option_or o (field_in (f ∷ []) n)) (absent name fs none)
            ∙ ap (λ b. cond b (Some f) None) (bytes_itself n);
        says = new;
      }

  -- ---- fields can be parsed

  module _ (definitions : Definitions)
      (new : IsReadable definitions (is_verbatim_field (str_to_ascii_lowercase name)) (new_value value).pieces) where
    abbrev Reads : FieldReading → Type 0
    Reads g = IsReadable definitions (is_verbatim_field (name_of g)) g.value.pieces

    pub values_readable : (fs : List FieldReading) → AllCanBeRead definitions fs → AllCanBeRead definitions (map set_field fs)
    values_readable [] read = tt
    values_readable (f ∷ fs) read = (by_name (has_name name f) refl, values_readable fs read.1)
      where
        by_same : (b : Bool) → is_same_value value f.value.pieces ≡ b → has_name name f ≡ true → Reads (set_field f)
        by_same true is named =
            subst Reads
            (sym (ap (λ b. cond (b && not (is_same_value value f.value.pieces)) (with_pieces (new_value value).pieces f) f) named
            ∙ ap (λ b. cond (not b) (with_pieces (new_value value).pieces f) f) is)) read.0
        by_same false is named =
            subst Reads
            (sym (ap (λ b. cond (b && not (is_same_value value f.value.pieces)) (with_pieces (new_value value).pieces f) f) named
            ∙ ap (λ b. cond (not b) (with_pieces (new_value value).pieces f) f) is))
            (subst (λ n. IsReadable definitions (is_verbatim_field n) (new_value value).pieces)
            (sym ((bytes_eq-Decides (name_of f) (str_to_ascii_lowercase name)).0 named)) new)

        by_name : (b : Bool) → has_name name f ≡ b → Reads (set_field f)
        by_name true named = by_same (is_same_value value f.value.pieces) refl named
        by_name false other = subst Reads (sym (other_kept f other)) read.0

-- ---- a field without a name

module _ (name : List ℕ) where
  abbrev other_field : FieldReading → Bool
  other_field f = not (has_name name f)

  pub unset_others : (fs : List FieldReading) (other : List ℕ) → bytes_eq other (str_to_ascii_lowercase name) ≡ false
      → field_in (filter other_field fs) other ≡ field_in fs other
  unset_others fs other apart =
      ap (find (λ f. bytes_eq other (name_of f))) (reverse_filter other_field fs)
      ∙ find_passing (λ f. bytes_eq other (name_of f)) other_field
      (λ f tests. ap not (named_alike name other f tests ∙ apart)) (reverse fs)

  pub unset_absent : (fs : List FieldReading) → field_in (filter other_field fs) (str_to_ascii_lowercase name) ≡ None
  unset_absent fs =
      ap (find (λ f. bytes_eq (str_to_ascii_lowercase name) (name_of f))) (reverse_filter other_field fs)
      ∙ find_failing (λ f. bytes_eq (str_to_ascii_lowercase name) (name_of f)) other_field
      (λ f tests. ap not (named_alike name (str_to_ascii_lowercase name) f tests ∙ bytes_itself (str_to_ascii_lowercase name))) (reverse fs)

  pub unset_readable : (definitions : Definitions) (fs : List FieldReading) → AllCanBeRead definitions fs
      → AllCanBeRead definitions (filter other_field fs)
  unset_readable definitions [] read = tt
  unset_readable definitions (f ∷ fs) read = by_name (other_field f) (unset_readable definitions fs read.1)
    where
      by_name : (b : Bool) → AllCanBeRead definitions (filter other_field fs)
          → AllCanBeRead definitions (cond b (f ∷ filter other_field fs) (filter other_field fs))
      by_name true rest = (read.0, rest)
      by_name false rest = rest
