-- Lists of changes of entries and fields while a loop visits them.
use Rattle.std.proofs.Common.{◌≡◌, ◌⊎◌, inl, inr, ℕ, zero, suc, ◌+◌, ◌<◌, List, [], ◌∷◌, ◌++◌, Option, Some, None, map, take, drop, length, get_or, refl, sym, ap, ◌∙◌, subst, arith, append_assoc, append-nil}
use Rattle.std.specs.List.{AllByRecursion, flat_map}
use Rattle.std.proofs.lemmas.List.{map-append, take_more, take-append-drop, length-map, length-take-le}
use Rattle.bib_text.proofs.PlaceFacts.{ahead_run}
use Rattle.bib_syntax.specs.Reading.{EntryReading}
use Rattle.edit_entries.specs.Edits.{Edit}
use Rattle.edit_entries.specs.References.{Change, change_edit, key_change, reference_changes, renaming}
use Rattle.edit_entries.specs.EditList.{AreEditsInOrder}
use Rattle.edit_entries.specs.Stretches.{AreChangesInOrder, EndsInWhite}
use Rattle.edit_entries.specs.declared.errors.EditError.{EditError}
use Rattle.edit_entries.specs.declared.errors.EditError.TheVariants.{NotInBraces, OutOfMemory}
use Rattle.edit_entries.proofs.TrimmedFacts.{edits_earlier}

pub all_left : {A : Type 0} (P : A → Type 0) (xs ys : List A) → AllByRecursion P (xs ++ ys) → AllByRecursion P xs
all_left P [] ys all = tt
all_left P (x ∷ xs) ys all = (all.0, all_left P xs ys all.1)

pub all_right : {A : Type 0} (P : A → Type 0) (xs ys : List A) → AllByRecursion P (xs ++ ys) → AllByRecursion P ys
all_right P [] ys all = all
all_right P (x ∷ xs) ys all = all_right P xs ys all.1

-- if each element of a flat map has a property, so has each one that comes from one element of the list
pub all_at : {A B C : Type 0} (P : C → Type 0) (g : B → List C) (view : A → B) (xs : List A) (k : ℕ) (x : A)
    → k < length xs → x ≡ get_or xs k x → AllByRecursion P (flat_map g (map view xs)) → AllByRecursion P (g (view x))
all_at P g view [] k x within is all = absurd (omega arith)
all_at P g view (y ∷ ys) zero x within is all =
    subst (λ z. AllByRecursion P (g (view z))) (sym is) (all_left P (g (view y)) (flat_map g (map view ys)) all)
all_at P g view (y ∷ ys) (suc k) x within is all =
    all_at P g view ys k x (omega arith) is (all_right P (g (view y)) (flat_map g (map view ys)) all)

-- a part's error is also an error of the whole, if the whole implies the part
pub refused_more : (P Q : Type 0) (e : EditError) → (Q → P) → (e ≡ OutOfMemory) ⊎ ((e ≡ NotInBraces) × (P → ⊥))
    → (e ≡ OutOfMemory) ⊎ ((e ≡ NotInBraces) × (Q → ⊥))
refused_more P Q e part (inl memory) = inl memory
refused_more P Q e part (inr braces) = inr (braces.0, λ all. braces.1 (part all))

-- ---- one more entry

pub renaming-append : (names : List ℕ → List ℕ → Option (List ℕ)) (keys : ℕ → Option (List ℕ)) (index : ℕ) (xs ys : List EntryReading)
    → renaming names keys index (xs ++ ys) ≡ renaming names keys index xs ++ renaming names keys (index + length xs) ys
renaming-append names keys index [] ys =
    let same : index ≡ index + 0 = omega arith in
    ap (λ i. renaming names keys i ys) same
renaming-append names keys index (x ∷ xs) ys =
    let same : suc index + length xs ≡ index + suc (length xs) = omega arith in
    let here : List Change = key_change (keys index) x ++ reference_changes names x.fields in
    ap (λ l. here ++ l)
    (renaming-append names keys (suc index) xs ys
    ∙ ap (λ i. renaming names keys (suc index) xs ++ renaming names keys i ys) same)
    ∙ sym (append_assoc here (renaming names keys (suc index) xs) (renaming names keys (index + suc (length xs)) ys))

module _ {A : Type 0} (view : A → EntryReading) (names : List ℕ → List ℕ → Option (List ℕ)) (keys : ℕ → Option (List ℕ)) (xs : List A)
    (i : ℕ) (x : A) (within : i < length xs) (is : x ≡ get_or xs i x) where
  size : length (map view (take i xs)) ≡ i
  size = length-map (take i xs) view ∙ length-take-le i xs (omega arith)

  -- the changes of some entries and one more are those of the first ones, and then those of the last one
  pub renaming_more : renaming names keys 0 (map view (take (i + 1) xs))
      ≡ renaming names keys 0 (map view (take i xs)) ++ (key_change (keys i) (view x) ++ reference_changes names (view x).fields)
  renaming_more =
      let index : 0 + length (map view (take i xs)) ≡ i = omega (arith, size) in
      ap (renaming names keys 0)
      (ap (map view) (take_more xs i x within ∙ ap (λ y. take i xs ++ y ∷ []) (sym is))
      ∙ map-append view (take i xs) (x ∷ []))
      ∙ renaming-append names keys 0 (map view (take i xs)) (view x ∷ [])
      ∙ ap (λ n. renaming names keys 0 (map view (take i xs)) ++ renaming names keys n (view x ∷ [])) index
      ∙ ap (λ l. renaming names keys 0 (map view (take i xs)) ++ l)
      (append-nil (key_change (keys i) (view x) ++ reference_changes names (view x).fields))

  -- a property of all changes is one of the reference changes of each entry
  pub renaming_at : (P : Change → Type 0) → AllByRecursion P (renaming names keys 0 (map view xs))
      → AllByRecursion P (reference_changes names (view x).fields)
  renaming_at P all =
      let whole : map view xs ≡ map view (take (i + 1) xs) ++ map view (drop (i + 1) xs) =
      ap (map view) (sym (take-append-drop (i + 1) xs)) ∙ map-append view (take (i + 1) xs) (drop (i + 1) xs) in
      let cut =
      ap (renaming names keys 0) whole
      ∙ renaming-append names keys 0 (map view (take (i + 1) xs)) (map view (drop (i + 1) xs)) in
      let upto =
      all_left P (renaming names keys 0 (map view (take (i + 1) xs)))
      (renaming names keys (0 + length (map view (take (i + 1) xs))) (map view (drop (i + 1) xs)))
      (subst (AllByRecursion P) cut all) in
      let last =
      all_right P (renaming names keys 0 (map view (take i xs)))
      (key_change (keys i) (view x) ++ reference_changes names (view x).fields)
      (subst (AllByRecursion P) renaming_more upto) in
      all_right P (key_change (keys i) (view x)) (reference_changes names (view x).fields) last

-- ---- changes as edits

pub in_order : (text : List ℕ) (at : ℕ) (changes : List Change) → AreChangesInOrder text at changes
    → AllByRecursion (EndsInWhite text) changes → AreEditsInOrder text at (map (change_edit text) changes)
in_order text at [] apart white = tt
in_order text at (Change.key p new ∷ changes) apart white =
    (apart.0, apart.1, apart.2, apart.3, in_order text p.end changes apart.4 white.1)
in_order text at (Change.value f new ∷ changes) apart white = (
  apart.0,
  omega arith,
  apart.2,
  white.0.1,
  edits_earlier text f.value.end (change_edit text (Change.value f new)).end (map (change_edit text) changes)
      (ahead_run white.0.0).at (in_order text f.value.end changes apart.4 white.1),
)

-- the edits of changes, then of a key change, then of reference changes are the edits of all of them in this order
pub pushed : (text : List ℕ) (before key refs : List Change) (a b c : List Edit) → a ≡ map (change_edit text) before
    → b ≡ a ++ map (change_edit text) key → c ≡ b ++ map (change_edit text) refs
    → c ≡ map (change_edit text) (before ++ (key ++ refs))
pushed text before key refs a b c first second third =
    third ∙ ap (λ l. l ++ map (change_edit text) refs) (second ∙ ap (λ l. l ++ map (change_edit text) key) first)
    ∙ append_assoc (map (change_edit text) before) (map (change_edit text) key) (map (change_edit text) refs)
    ∙ ap (λ l. map (change_edit text) before ++ l) (sym (map-append (change_edit text) key refs))
    ∙ sym (map-append (change_edit text) before (key ++ refs))

-- the key change of an entry has a property if the change to each possible new key has it
pub key_all : (P : Change → Type 0) (o : Option (List ℕ)) (e : EntryReading) → ((new : List ℕ) → o ≡ Some new → P (Change.key e.key new))
    → AllByRecursion P (key_change o e)
key_all P None e holds = tt
key_all P (Some new) e holds = (holds new refl, tt)
