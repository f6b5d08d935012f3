-- A field that was set has the value.
use Rattle.std.proofs.Common.{◌≡◌, ℕ, zero, suc, Bool, true, false, cond, List, [], ◌∷◌, ◌++◌, map, refl, sym, ap, ◌∙◌, subst, Option, Some, None}
use Rattle.std.specs.Prelude.{bytes_eq, not, ◌&&◌, ◌||◌, slice_get, slice_set}
use Rattle.std.specs.List.{list_any}
use Rattle.std.specs.Str.{str_to_ascii_lowercase}
use Rattle.bib_text.proofs.ListFacts.{get_set, get_mapped}
use Rattle.bib_text.proofs.BytesFacts.{bytes_itself}
use Rattle.bib_syntax.specs.Reading.{EntryReading, FieldReading, Piece}
use Rattle.bib_syntax.specs.Reading.Piece.{abbreviation, literal}
use Rattle.bib_syntax.specs.Grammar.{is_word}
use Rattle.edit_entries.specs.Changes.{FieldChange, entry_changed, field_changed, field_reading, fields_changed}
use Rattle.edit_entries.specs.Documents.{Document, HasEntry, first_position, has_name, is_keyed, is_value, last_position, next_index, or_first, text_at}
use Rattle.edit_entries.specs.Edits.{moved_entry, moved_field, moved_piece, placeless}
use Rattle.edit_entries.specs.Setting.{FieldSet, HasValue, SetValue, field_put, has_other_value, is_bare_piece, is_bare_number, is_same_value, field_with_value, new_value, set_change, values_set}
use Rattle.edit_entries.proofs.EntryChangeFacts.{fields_kept}

-- ---- indices at which a test is passed

first_set : {A : Type 0} (test : A → Bool) (xs : List A) (k : ℕ) (y : A) → first_position test xs ≡ Some k → test y ≡ true
    → first_position test (slice_set xs k y) ≡ Some k
first_set test [] k y first passes = absurd (cc)
first_set {A} test (x ∷ xs) k y first passes = by_case (test x) refl first (λ i is. first_set test xs i y is passes)
  where
    shift : (i : Option ℕ) → first_position test xs ≡ i → next_index i ≡ Some k → test x ≡ false
        → ((n : ℕ) → first_position test xs ≡ Some n → first_position test (slice_set xs n y) ≡ Some n)
        → first_position test (slice_set (x ∷ xs) k y) ≡ Some k
    shift None is found fails rest = absurd (cc)
    shift (Some i) is found fails rest =
        let same : suc i ≡ k = cc in
        subst (λ n. first_position test (slice_set (x ∷ xs) n y) ≡ Some n) same
        (ap (λ b. cond b (Some 0) (next_index (first_position test (slice_set xs i y)))) fails
        ∙ ap next_index (rest i is))

    by_case : (b : Bool) → test x ≡ b → cond b (Some 0) (next_index (first_position test xs)) ≡ Some k
        → ((n : ℕ) → first_position test xs ≡ Some n → first_position test (slice_set xs n y) ≡ Some n)
        → first_position test (slice_set (x ∷ xs) k y) ≡ Some k
    by_case true is found rest =
        let here : 0 ≡ k = cc in
        subst (λ n. first_position test (slice_set (x ∷ xs) n y) ≡ Some n) here
        (ap (λ b. cond b (Some 0) (next_index (first_position test xs))) passes)
    by_case false is found rest = shift (first_position test xs) refl found is rest

first_mapped : {A B : Type 0} (view : A → B) (test : A → Bool) (other : B → Bool) → ((x : A) → other (view x) ≡ test x) → (xs : List A)
    → first_position other (map view xs) ≡ first_position test xs
first_mapped view test other same [] = refl
first_mapped view test other same (x ∷ xs) =
    ap (λ b. cond b (Some 0) (next_index (first_position other (map view xs)))) (same x)
    ∙ ap (λ i. cond (test x) (Some 0) (next_index i)) (first_mapped view test other same xs)

last_mapped : {A B : Type 0} (view : A → B) (test : A → Bool) (other : B → Bool) → ((x : A) → other (view x) ≡ test x) → (xs : List A)
    → last_position other (map view xs) ≡ last_position test xs
last_mapped view test other same [] = refl
last_mapped view test other same (x ∷ xs) =
    ap (λ b. or_first b (last_position other (map view xs))) (same x)
    ∙ ap (or_first (test x)) (last_mapped view test other same xs)

-- each element of a mapped list is the image of an element of the list
from_mapped : {A B : Type 0} (view : A → B) (xs : List A) (k : ℕ) (y : B) → slice_get (map view xs) k ≡ Some y
    → (x : A) × (slice_get xs k ≡ Some x) × (view x ≡ y)
from_mapped view [] k y here = absurd (cc)
from_mapped view (z ∷ zs) zero y here = (z, refl, cc)
from_mapped view (z ∷ zs) (suc k) y here = from_mapped view zs k y here

passes_first : {A : Type 0} (test : A → Bool) (xs : List A) (k : ℕ) (x : A) → first_position test xs ≡ Some k
    → slice_get xs k ≡ Some x → test x ≡ true
passes_first test [] k x first here = absurd (cc)
passes_first {A} test (z ∷ zs) k x first here = by_case (test z) refl first (λ i. passes_first test zs i x)
  where
    shift : (i : Option ℕ) → first_position test zs ≡ i → next_index i ≡ Some k
        → ((n : ℕ) → first_position test zs ≡ Some n → slice_get zs n ≡ Some x → test x ≡ true) → test x ≡ true
    shift None is found rest = absurd (cc)
    shift (Some i) is found rest =
        let same : suc i ≡ k = cc in
        rest i is (subst (λ n. slice_get (z ∷ zs) n ≡ Some x) (sym same) here)

    by_case : (b : Bool) → test z ≡ b → cond b (Some 0) (next_index (first_position test zs)) ≡ Some k
        → ((n : ℕ) → first_position test zs ≡ Some n → slice_get zs n ≡ Some x → test x ≡ true) → test x ≡ true
    by_case true is found rest =
        let none : 0 ≡ k = cc in
        let same : Some z ≡ Some x = subst (λ n. slice_get (z ∷ zs) n ≡ Some x) (sym none) here in
        let head : z ≡ x = cc in
        ap test (sym head) ∙ is
    by_case false is found rest = shift (first_position test zs) refl found rest

-- an element passes, and none after it does
record HasLast {A : Type 0} (test : A → Bool) (xs : List A) : Type 0 where
  index : ℕ
  element : A
  last : last_position test xs ≡ Some index
  here : slice_get xs index ≡ Some element
  passes : test element ≡ true

none_last : {A : Type 0} (test : A → Bool) (ys : List A) → list_any test ys ≡ false → last_position test ys ≡ None
none_last test [] none = refl
none_last {A} test (y ∷ ys) none = by_case (test y) refl none (none_last test ys)
  where
    by_case : (b : Bool) → test y ≡ b → (b || list_any test ys) ≡ false
        → (list_any test ys ≡ false → last_position test ys ≡ None) → last_position test (y ∷ ys) ≡ None
    by_case true is fails rest = absurd (cc)
    by_case false is fails rest = ap (λ b. or_first b (last_position test ys)) is ∙ ap (or_first false) (rest fails)

last_known : {A : Type 0} (test : A → Bool) (xs : List A) → list_any test xs ≡ true → HasLast test xs
last_known test [] any = absurd (cc)
last_known {A} test (x ∷ xs) any = by_rest (list_any test xs) refl (last_known test xs)
  where
    by_here : (b : Bool) → test x ≡ b → list_any test xs ≡ false → (b || list_any test xs) ≡ true → HasLast test (x ∷ xs)
    by_here true is none found = record {
      index = 0;
      element = x;
      last = ap (or_first (test x)) (none_last test xs none) ∙ ap (λ b. cond b (Some 0) None) is;
      here = refl;
      passes = is;
    }
    by_here false is none found = absurd (cc)

    by_rest : (b : Bool) → list_any test xs ≡ b → (list_any test xs ≡ true → HasLast test xs) → HasLast test (x ∷ xs)
    by_rest true is known =
        let rest = known is in
        record {
          index = suc rest.index;
          element = rest.element;
          last = ap (or_first (test x)) rest.last;
          here = rest.here;
          passes = rest.passes;
        }
    by_rest false is known = by_here (test x) refl is any

-- ---- without byte offsets

abbrev no_offsets : EntryReading → EntryReading
no_offsets e = moved_entry (λ n. 0) e

abbrev field_no_offsets : FieldReading → FieldReading
field_no_offsets f = moved_field (λ n. 0) f

text_no_offsets : (move : ℕ → ℕ) (value : List ℕ) (pieces : List Piece)
    → is_value value (map (moved_piece move) pieces) ≡ is_value value pieces
text_no_offsets move value [] = refl
text_no_offsets move value (abbreviation p ∷ rest) = refl
text_no_offsets move value (literal p ∷ []) = refl
text_no_offsets move value (literal p ∷ other ∷ rest) = refl

value_no_offsets : (move : ℕ → ℕ) (value : SetValue) (pieces : List Piece)
    → is_same_value value (map (moved_piece move) pieces) ≡ is_same_value value pieces
value_no_offsets move (SetValue.plain_text text) pieces = text_no_offsets move text pieces
value_no_offsets move (SetValue.bare_text text) [] = refl
value_no_offsets move (SetValue.bare_text text) (literal p ∷ []) = refl
value_no_offsets move (SetValue.bare_text text) (abbreviation p ∷ []) = refl
value_no_offsets move (SetValue.bare_text text) (p ∷ other ∷ rest) = refl

-- the document after the change has the changed entry as the first one with the key, except for byte offsets
record IsThere (after : Document) (key : List ℕ) (k : ℕ) (changed : EntryReading) : Type 0 where
  entry : EntryReading
  has : HasEntry after key k entry
  alike : no_offsets entry ≡ no_offsets changed

entry_there : (d after : Document) (key : List ℕ) (k : ℕ) (e changed : EntryReading) → HasEntry d key k e
    → is_keyed key changed ≡ is_keyed key e
    → placeless after.says ≡ placeless (record d.says { entries = slice_set d.says.entries k changed }) → IsThere after key k changed
entry_there d after key k e changed entry same alike =
    let entries : map no_offsets after.says.entries ≡ map no_offsets (slice_set d.says.entries k changed) =
    ap (λ s. s.entries) alike in
    let keyed : is_keyed key e ≡ true = passes_first (is_keyed key) d.says.entries k e entry.first entry.here in
    let first : first_position (is_keyed key) after.says.entries ≡ Some k =
    sym (first_mapped no_offsets (is_keyed key) (is_keyed key) (λ x. refl) after.says.entries)
    ∙ ap (first_position (is_keyed key)) entries
    ∙ first_mapped no_offsets (is_keyed key) (is_keyed key) (λ x. refl) (slice_set d.says.entries k changed)
    ∙ first_set (is_keyed key) d.says.entries k changed entry.first (same ∙ keyed) in
    let here : slice_get (map no_offsets after.says.entries) k ≡ Some (no_offsets changed) =
    ap (λ es. slice_get es k) entries
    ∙ get_mapped no_offsets (slice_set d.says.entries k changed) k changed (get_set d.says.entries k e changed entry.here) in
    let found = from_mapped no_offsets after.says.entries k (no_offsets changed) here in
    record { entry = found.0; has = record { first = first; here = found.1 }; alike = found.2 }

-- ---- the law

-- the pieces of a new value are this value
new_is_same : (value : SetValue) → is_same_value value (new_value value).pieces ≡ true
new_is_same (SetValue.plain_text text) = bytes_itself text
new_is_same (SetValue.bare_text text) = by_case (is_bare_number text) refl
  where
    by_case : (b : Bool) → is_bare_number text ≡ b
        → is_bare_piece text (cond b (literal (text_at 0 text)) (abbreviation (text_at 0 text))) ≡ true
    by_case true is = ap (λ n. n && bytes_eq text text) is ∙ bytes_itself text
    by_case false is = bytes_itself (str_to_ascii_lowercase text)

-- a field after its value is set, if it has the name and another value
abbrev set_field : List ℕ → SetValue → FieldReading → FieldReading
set_field name value f =
    cond (has_other_value name value f) (record f { value = record f.value { pieces = (new_value value).pieces } }) f

fields_set : (name : List ℕ) (value : SetValue) (fs : List FieldReading)
    → fields_changed fs (map (set_change name value) fs) ≡ map (set_field name value) fs
fields_set name value [] = refl
fields_set name value (f ∷ fs) = by_case (has_other_value name value f) ∙ ap (λ gs. set_field name value f ∷ gs) (fields_set name value fs)
  where
    rest : List FieldReading
    rest = fields_changed fs (map (set_change name value) fs)

    by_case : (b : Bool)
        → field_changed f (cond b (FieldChange.valued (new_value value)) FieldChange.kept) ++ rest
        ≡ cond b (record f { value = record f.value { pieces = (new_value value).pieces } }) f ∷ rest
    by_case true = refl
    by_case false = refl

name_kept : (name : List ℕ) (value : SetValue) (other : List ℕ) (f : FieldReading)
    → has_name other (field_no_offsets (set_field name value f)) ≡ has_name other f
name_kept name value other f = by_case (has_other_value name value f)
  where
    by_case : (b : Bool)
        → has_name other (field_no_offsets (cond b (record f { value = record f.value { pieces = (new_value value).pieces } }) f))
        ≡ has_name other f
    by_case true = refl
    by_case false = refl

value_is_set : (name : List ℕ) (value : SetValue) (f : FieldReading) → has_name name f ≡ true
    → is_same_value value (set_field name value f).value.pieces ≡ true
value_is_set name value f named = by_case (is_same_value value f.value.pieces) refl
  where
    by_case : (b : Bool) → is_same_value value f.value.pieces ≡ b → is_same_value value (set_field name value f).value.pieces ≡ true
    by_case true is =
        let other : has_other_value name value f ≡ false = ap (λ b. b && not (is_same_value value f.value.pieces)) named ∙ ap not is in
        ap
        (λ b.
        is_same_value value (cond b (record f { value = record f.value { pieces = (new_value value).pieces } }) f).value.pieces) other
        ∙ is
    by_case false is =
        let other : has_other_value name value f ≡ true = ap (λ b. b && not (is_same_value value f.value.pieces)) named ∙ ap not is in
        ap
        (λ b.
        is_same_value value (cond b (record f { value = record f.value { pieces = (new_value value).pieces } }) f).value.pieces) other
        ∙ new_is_same value

map_map : {A B C : Type 0} (f : A → B) (g : B → C) (xs : List A) → map g (map f xs) ≡ map (λ y. g (f y)) xs
map_map f g [] = refl
map_map f g (y ∷ ys) = ap (λ zs. g (f y) ∷ zs) (map_map f g ys)

-- an entry that begins with a new field has the value, if its other fields don't have the name
new_there : {after : Document} {key name : List ℕ} {value : SetValue} {k : ℕ} {changed : EntryReading} (rest : List FieldReading)
    → (x : IsThere after key k changed) → changed.fields ≡ field_reading (field_with_value name value) ∷ rest
    → list_any (has_name name) rest ≡ false → HasValue after key name value
new_there {after} {key} {name} {value} {k} {changed} rest x are none =
    let new : FieldReading = field_reading (field_with_value name value) in
    let fields : map field_no_offsets x.entry.fields ≡ map field_no_offsets (new ∷ rest) =
    ap (λ y. y.fields) x.alike ∙ ap (map field_no_offsets) are in
    let here : slice_get (map field_no_offsets x.entry.fields) 0 ≡ Some (field_no_offsets new) = ap (λ fs. slice_get fs 0) fields in
    let found = from_mapped field_no_offsets x.entry.fields 0 (field_no_offsets new) here in
    record {
      index = k;
      entry = x.entry;
      at = 0;
      field = found.0;
      has = x.has;
      named = record {
        last =
            sym (last_mapped field_no_offsets (has_name name) (has_name name) (λ f. refl) x.entry.fields)
            ∙ ap (last_position (has_name name)) fields
            ∙ last_mapped field_no_offsets (has_name name) (has_name name) (λ f. refl) (new ∷ rest)
            ∙ ap (or_first (is_word name name)) (none_last (has_name name) rest none)
            ∙ ap (λ b. cond b (Some 0) None) (bytes_itself (str_to_ascii_lowercase name));
        here = found.1;
      };
      is = sym (value_no_offsets (λ n. 0) value found.0.value.pieces) ∙ ap (λ f. is_same_value value f.value.pieces) found.2
          ∙ value_no_offsets (λ n. 0) value (new_value value).pieces ∙ new_is_same value;
    }

pub set_there : {d after : Document} {key name : List ℕ} {value : SetValue} → FieldSet d key name value after
    → HasValue after key name value
set_there {d} {after} {key} {name} {value} (FieldSet.changed {k = k} {e = e} entry there can is) =
    let x = entry_there d after key k e (entry_changed e (values_set name value e)) entry refl is.alike in
    let view : FieldReading → FieldReading = λ (f : FieldReading). field_no_offsets (set_field name value f) in
    let fields : map field_no_offsets x.entry.fields ≡ map view e.fields =
    ap (λ y. y.fields) x.alike ∙ ap (map field_no_offsets) (fields_set name value e.fields)
    ∙ map_map (set_field name value) field_no_offsets e.fields in
    let last = last_known (has_name name) e.fields there in
    let here : slice_get (map field_no_offsets x.entry.fields) last.index ≡ Some (view last.element) =
    ap (λ fs. slice_get fs last.index) fields ∙ get_mapped view e.fields last.index last.element last.here in
    let found = from_mapped field_no_offsets x.entry.fields last.index (view last.element) here in
    record {
      index = k;
      entry = x.entry;
      at = last.index;
      field = found.0;
      has = x.has;
      named = record {
        last =
            sym (last_mapped field_no_offsets (has_name name) (has_name name) (λ f. refl) x.entry.fields)
            ∙ ap (last_position (has_name name)) fields
            ∙ last_mapped view (has_name name) (has_name name) (name_kept name value name) e.fields ∙ last.last;
        here = found.1;
      };
      is = sym (value_no_offsets (λ n. 0) value found.0.value.pieces) ∙ ap (λ f. is_same_value value f.value.pieces) found.2
          ∙ value_no_offsets (λ n. 0) value (set_field name value last.element).value.pieces
          ∙ value_is_set name value last.element last.passes;
    }
set_there {d} {after} {key} {name} {value}
    (FieldSet.added {k = k} {e = e} {first = first} {others = others} entry none are can_name can_value is) =
    let x = entry_there d after key k e (entry_changed e (field_put d.text name value first others)) entry refl is.alike in
    let new : FieldReading = field_reading (field_with_value name value) in
    let put : fields_changed e.fields (field_put d.text name value first others).fields ≡ new ∷ e.fields =
    ap (λ fs. fields_changed fs (field_put d.text name value first others).fields) are
    ∙ ap (λ fs. new ∷ first ∷ fs) (fields_kept others) ∙ ap (λ fs. new ∷ fs) (sym are) in
    new_there e.fields x put none
set_there {d} {after} {key} {name} {value} (FieldSet.only {k = k} {e = e} entry none can_name can_value is) =
    let changed : EntryReading = record e { fields = field_reading (field_with_value name value) ∷ [] } in
    new_there [] (entry_there d after key k e changed entry refl is.alike) refl refl
