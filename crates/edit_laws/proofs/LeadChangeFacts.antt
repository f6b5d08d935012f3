-- A document with new keys: the text of each key, and the value of each field.
use Rattle.std.proofs.Common.{◌≡◌, inl, inr, ℕ, zero, suc, ◌+◌, ◌<◌, ◌≤◌, Bool, true, false, cond, List, [], ◌∷◌, ◌++◌, map, Option, Some, None, refl, sym, ap, ap₂, ◌∙◌, subst, arith}
use Rattle.std.specs.Prelude.{slice_get, slice_set, ◌==◌}
use Rattle.std.specs.List.{AllByRecursion, AllZip}
use Rattle.std.specs.Option.{option_or, unwrap_or}
use Rattle.std.proofs.lemmas.Bool.{cases_lt, eq-eqb, ne_eqb}
use Rattle.bib_text.proofs.ListFacts.{all_append, some_same}
use Rattle.bib_syntax.specs.Reading.{EntryReading, FieldReading, Part, Piece}
use Rattle.bib_syntax.specs.Reading.Piece.{literal}
use Rattle.edit_entries.specs.Documents.{Document, IsDocument, text_at, value_edit, with_value}
use Rattle.edit_entries.specs.Edits.{Edit, moved_entry, moved_field, moved_part, moved_piece, moved_place}
use Rattle.edit_entries.specs.References.{Change, Changed, KeysRenamed, key_change, key_renaming, new_reference, reference_changes, renamed_value, renaming, value_change}
use Rattle.edit_entries.specs.Stretches.{AreChangesInOrder, change_end, change_start}
use Rattle.edit_entries.proofs.ChangeListFacts.{key_all}
use Rattle.edit_entries.proofs.EditFacts.{moved_after, moved_before}
use Rattle.edit_entries.proofs.RenamedFacts.{key_some}
use Rattle.edit_entries.proofs.RenamingFacts.{apart_known}
use Rattle.edit_entries.proofs.PlacelessFacts.{pieces_placeless}
use Rattle.edit_laws.proofs.LeadListFacts.{zip_back, zip_change, zip_get, zip_into, zip_self, zip_weaker}
use Rattle.edit_laws.proofs.LeadOrderFacts.{fields_apart, keys_apart, value_filled, values_apart}

-- ---- the changes of a list

-- the new text of a change
abbrev change_text : Change → List ℕ
change_text (Change.key p new) = new
change_text (Change.value f new) = new

-- the new text of the first change that passes a test
abbrev new_text : (Change → Bool) → List Change → Option (List ℕ)
new_text test [] = None
new_text test (change ∷ changes) = cond (test change) (Some (change_text change)) (new_text test changes)

-- whether a change is one of the key that begins at a byte offset
abbrev is_key_at : ℕ → Change → Bool
is_key_at at (Change.key p new) = p.start == at
is_key_at at (Change.value f new) = false

-- whether a change is one of the value that begins at a byte offset
abbrev is_value_at : ℕ → Change → Bool
is_value_at at (Change.key p new) = false
is_value_at at (Change.value f new) = f.value.start == at

-- the new text in two lists of changes is that in the first, or else that in the second
new_append : (test : Change → Bool) (xs ys : List Change) → new_text test (xs ++ ys) ≡ option_or (new_text test xs) (new_text test ys)
new_append test [] ys = refl
new_append test (x ∷ xs) ys = by_test (test x) (new_append test xs ys)
  where
    by_test : (b : Bool) → new_text test (xs ++ ys) ≡ option_or (new_text test xs) (new_text test ys)
        → cond b (Some (change_text x)) (new_text test (xs ++ ys))
        ≡ option_or (cond b (Some (change_text x)) (new_text test xs)) (new_text test ys)
    by_test true rest = refl
    by_test false rest = rest

-- there is no new text if no change passes the test
new_none : (test : Change → Bool) (xs : List Change) → AllByRecursion (λ c. test c ≡ false) xs → new_text test xs ≡ None
new_none test [] all = refl
new_none test (x ∷ xs) all =
    ap (λ b. cond b (Some (change_text x)) (new_text test xs)) all.0 ∙ new_none test xs all.1

-- the changes of references have a property if each change of the value of a field has it
references_all : (P : Change → Type 0) (names : List ℕ → List ℕ → Option (List ℕ)) (fs : List FieldReading)
    → ((j : ℕ) (f : FieldReading) (new : List ℕ) → slice_get fs j ≡ Some f → P (Change.value f new))
    → AllByRecursion P (reference_changes names fs)
references_all P names [] each = tt
references_all P names (f ∷ fs) each =
    all_append P (value_change f (renamed_value names f)) (reference_changes names fs) (one (renamed_value names f))
    (references_all P names fs (λ j. each (suc j)))
  where
    one : (o : Option (List ℕ)) → AllByRecursion P (value_change f o)
    one None = tt
    one (Some new) = (each zero f new refl, tt)

-- the changes that give new keys have a property if each change of a key to its new key and each change of a value has it
renaming_all : (P : Change → Type 0) (names : List ℕ → List ℕ → Option (List ℕ)) (keys : ℕ → Option (List ℕ)) (index : ℕ)
    (es : List EntryReading)
    → ((k at : ℕ) (e : EntryReading) (new : List ℕ) → at ≡ index + k → slice_get es k ≡ Some e → keys at ≡ Some new
    → P (Change.key e.key new))
    → ((k j : ℕ) (e : EntryReading) (f : FieldReading) (new : List ℕ) → slice_get es k ≡ Some e → slice_get e.fields j ≡ Some f
    → P (Change.value f new))
    → AllByRecursion P (renaming names keys index es)
renaming_all P names keys index [] key value = tt
renaming_all P names keys index (e ∷ es) key value =
    all_append P (key_change (keys index) e ++ reference_changes names e.fields) (renaming names keys (suc index) es)
    (all_append P (key_change (keys index) e) (reference_changes names e.fields)
    (key_all P (keys index) e (λ new gets. key zero index e new (omega arith) refl gets))
    (references_all P names e.fields (λ j f new there. value zero j e f new refl there)))
    (renaming_all P names keys (suc index) es (λ k at x new is. key (suc k) at x new (omega (arith, is))) (λ k. value (suc k)))

-- ---- the change of one key, and of one value

module _ (names : List ℕ → List ℕ → Option (List ℕ)) (keys : ℕ → Option (List ℕ)) where
  -- the new text is that of the change of the first key, or else of the first entry's references, or else of later entries
  entry_text : (test : Change → Bool) (index : ℕ) (x : EntryReading) (xs : List EntryReading) (a b c : Option (List ℕ))
      → new_text test (key_change (keys index) x) ≡ a → new_text test (reference_changes names x.fields) ≡ b
      → new_text test (renaming names keys (suc index) xs) ≡ c
      → new_text test (renaming names keys index (x ∷ xs)) ≡ option_or (option_or a b) c
  entry_text test index x xs a b c key references rest =
      let first : List Change = key_change (keys index) x in
      let second : List Change = reference_changes names x.fields in
      new_append test (first ++ second) (renaming names keys (suc index) xs)
      ∙ ap₂ option_or (new_append test first second ∙ ap₂ option_or key references) rest

  -- `option_or` with `None` changes nothing
  or_none : (o : Option (List ℕ)) → option_or (option_or o None) None ≡ o
  or_none None = refl
  or_none (Some x) = refl

  -- the change of an entry's key has its new key as the new text
  own_key : (o : Option (List ℕ)) (e : EntryReading) → new_text (is_key_at e.key.start) (key_change o e) ≡ o
  own_key None e = refl
  own_key (Some new) e = ap (λ b. cond b (Some new) None) (eq-eqb e.key.start e.key.start refl)

  -- the new text of a key is the new key of its entry, if no other key begins at its byte offset
  key_known : (index at : ℕ) (es : List EntryReading) (k : ℕ) (e : EntryReading) → at ≡ index + k → slice_get es k ≡ Some e
      → ((i : ℕ) (z : EntryReading) → slice_get es i ≡ Some z → z.key.start ≡ e.key.start → i ≡ k)
      → new_text (is_key_at e.key.start) (renaming names keys index es) ≡ keys at
  key_known index at [] k e is here apart = absurd (cc)
  key_known index at (x ∷ xs) zero e is here apart =
      let same : x ≡ e = some_same here in
      let test : Change → Bool = is_key_at e.key.start in
      let none : new_text test (renaming names keys (suc index) xs) ≡ None =
      new_none test (renaming names keys (suc index) xs)
      (renaming_all (λ c. test c ≡ false) names keys (suc index) xs
      (λ i n z new whole there gets.
      ne_eqb z.key.start e.key.start (λ equal. let clash : suc i ≡ zero = apart (suc i) z there equal in omega (arith, clash)))
      (λ i j z f new there there'. refl)) in
      let references : new_text test (reference_changes names x.fields) ≡ None =
      new_none test (reference_changes names x.fields)
      (references_all (λ c. test c ≡ false) names x.fields (λ j f new there. refl)) in
      let own : new_text test (key_change (keys index) x) ≡ keys index =
      ap (λ y. new_text test (key_change (keys index) y)) same ∙ own_key (keys index) e in
      let index_is : index ≡ at = omega (arith, is) in
      entry_text test index x xs (keys index) None None own references none ∙ or_none (keys index) ∙ ap keys index_is
  key_known index at (x ∷ xs) (suc k) e is here apart =
      let test : Change → Bool = is_key_at e.key.start in
      let own : new_text test (key_change (keys index) x) ≡ None =
      new_none test (key_change (keys index) x)
      (key_all (λ c. test c ≡ false) (keys index) x
      (λ new gets.
      ne_eqb x.key.start e.key.start (λ equal. let clash : zero ≡ suc k = apart zero x refl equal in omega (arith, clash)))) in
      let references : new_text test (reference_changes names x.fields) ≡ None =
      new_none test (reference_changes names x.fields)
      (references_all (λ c. test c ≡ false) names x.fields (λ j f new there. refl)) in
      entry_text test index x xs None None (keys at) own references
      (key_known (suc index) at xs k e (omega (arith, is)) here
      (λ i z there equal. let same : suc i ≡ suc k = apart (suc i) z there equal in omega (arith, same)))

  -- the change of a field's value has its new value as the new text
  own_value : (o : Option (List ℕ)) (f : FieldReading) → new_text (is_value_at f.value.start) (value_change f o) ≡ o
  own_value None f = refl
  own_value (Some new) f = ap (λ b. cond b (Some new) None) (eq-eqb f.value.start f.value.start refl)

  -- the change of a value isn't one of a value that begins at another byte offset
  other_value : (at : ℕ) (o : Option (List ℕ)) (f : FieldReading) → (f.value.start ≡ at → ⊥)
      → new_text (is_value_at at) (value_change f o) ≡ None
  other_value at None f other = refl
  other_value at (Some new) f other = ap (λ b. cond b (Some new) None) (ne_eqb f.value.start at other)

  -- the new text of a field's value is its value with new names, if no other value of these fields begins at its byte offset
  references_known : (fs : List FieldReading) (j : ℕ) (f : FieldReading) → slice_get fs j ≡ Some f
      → ((i : ℕ) (h : FieldReading) → slice_get fs i ≡ Some h → h.value.start ≡ f.value.start → i ≡ j)
      → new_text (is_value_at f.value.start) (reference_changes names fs) ≡ renamed_value names f
  references_known [] j f there apart = absurd (cc)
  references_known (g ∷ gs) zero f there apart =
      let same : g ≡ f = some_same there in
      let test : Change → Bool = is_value_at f.value.start in
      let rest : new_text test (reference_changes names gs) ≡ None =
      new_none test (reference_changes names gs)
      (references_all (λ c. test c ≡ false) names gs
      (λ i h new found.
      ne_eqb h.value.start f.value.start (λ equal. let clash : suc i ≡ zero = apart (suc i) h found equal in omega (arith, clash)))) in
      let own : new_text test (value_change g (renamed_value names g)) ≡ renamed_value names f =
      ap (λ y. new_text test (value_change y (renamed_value names y))) same ∙ own_value (renamed_value names f) f in
      new_append test (value_change g (renamed_value names g)) (reference_changes names gs)
      ∙ ap₂ option_or own rest ∙ last (renamed_value names f)
    where
      last : (o : Option (List ℕ)) → option_or o None ≡ o
      last None = refl
      last (Some x) = refl
  references_known (g ∷ gs) (suc j) f there apart =
      let test : Change → Bool = is_value_at f.value.start in
      new_append test (value_change g (renamed_value names g)) (reference_changes names gs)
      ∙ ap₂ option_or
      (other_value f.value.start (renamed_value names g) g
      (λ equal. let clash : zero ≡ suc j = apart zero g refl equal in omega (arith, clash)))
      (references_known gs j f there (λ i h found equal. let same : suc i ≡ suc j = apart (suc i) h found equal in omega (arith, same)))

  -- the new text of a value is the value with new names, if no other value of the file begins at its byte offset
  value_known : (index : ℕ) (es : List EntryReading) (k j : ℕ) (e : EntryReading) (f : FieldReading) → slice_get es k ≡ Some e
      → slice_get e.fields j ≡ Some f
      → ((i l : ℕ) (z : EntryReading) (h : FieldReading) → slice_get es i ≡ Some z → slice_get z.fields l ≡ Some h
      → h.value.start ≡ f.value.start → i ≡ k)
      → ((l : ℕ) (h : FieldReading) → slice_get e.fields l ≡ Some h → h.value.start ≡ f.value.start → l ≡ j)
      → new_text (is_value_at f.value.start) (renaming names keys index es) ≡ renamed_value names f
  value_known index [] k j e f here there apart own = absurd (cc)
  value_known index (x ∷ xs) zero j e f here there apart own =
      let same : x ≡ e = some_same here in
      let test : Change → Bool = is_value_at f.value.start in
      let none : new_text test (renaming names keys (suc index) xs) ≡ None =
      new_none test (renaming names keys (suc index) xs)
      (renaming_all (λ c. test c ≡ false) names keys (suc index) xs (λ i n z new whole found gets. refl)
      (λ i l z h new found found'.
      ne_eqb h.value.start f.value.start
      (λ equal. let clash : suc i ≡ zero = apart (suc i) l z h found found' equal in omega (arith, clash)))) in
      let key : new_text test (key_change (keys index) x) ≡ None =
      new_none test (key_change (keys index) x) (key_all (λ c. test c ≡ false) (keys index) x (λ new gets. refl)) in
      let references : new_text test (reference_changes names x.fields) ≡ renamed_value names f =
      ap (λ y. new_text test (reference_changes names y.fields)) same ∙ references_known e.fields j f there own in
      entry_text test index x xs None (renamed_value names f) None key references none ∙ last (renamed_value names f)
    where
      last : (o : Option (List ℕ)) → option_or (option_or None o) None ≡ o
      last None = refl
      last (Some y) = refl
  value_known index (x ∷ xs) (suc k) j e f here there apart own =
      let test : Change → Bool = is_value_at f.value.start in
      let key : new_text test (key_change (keys index) x) ≡ None =
      new_none test (key_change (keys index) x) (key_all (λ c. test c ≡ false) (keys index) x (λ new gets. refl)) in
      let references : new_text test (reference_changes names x.fields) ≡ None =
      new_none test (reference_changes names x.fields)
      (references_all (λ c. test c ≡ false) names x.fields
      (λ l h new found.
      ne_eqb h.value.start f.value.start
      (λ equal. let clash : zero ≡ suc k = apart zero l x h refl found equal in omega (arith, clash)))) in
      entry_text test index x xs None None (renamed_value names f) key references
      (value_known (suc index) xs k j e f here there
      (λ i l z h found found' equal. let same : suc i ≡ suc k = apart (suc i) l z h found found' equal in omega (arith, same)) own)

-- ---- a changed document

-- the byte offset `old` becomes `new` by changes from `at` on: one before `at` stays, and others stay at or after `at`
record IsTracked (at old new : ℕ) : Type 0 where
  before : old < at → new ≡ old
  from : at ≤ old → at ≤ new

-- a byte offset before `at` in the changed document is the same in the old one
tracked_back : (at old new : ℕ) → IsTracked at old new → new < at → old ≡ new
tracked_back at old new t below =
    elim (cases_lt old at) [
      | inl before ↦ sym (t.before before)
      | inr from ↦ absurd (omega (arith, t.from from, below))
    ]

-- a byte offset that is tracked from `at` on is tracked from `less` on after an edit that starts between `less` and `at`
tracked_moved : (edit : Edit) (less at old new : ℕ) → less ≤ edit.start → edit.start ≤ edit.end → edit.start ≤ at
    → IsTracked at old new → IsTracked less old (moved_place edit new)
tracked_moved edit less at old new first ordered last t = record {
  before = λ below.
      let same : new ≡ old = t.before (omega arith) in
      moved_before edit new (omega (arith, same)) ∙ same;
  from = λ above.
      let stays : less ≤ new =
      elim (cases_lt old at) [
        | inl before ↦ omega (arith, t.before before)
        | inr from ↦ omega (arith, t.from from)
      ] in
      elim (cases_lt new edit.end) [
        | inl before ↦ omega (arith, moved_before edit new before)
        | inr past ↦ omega (arith, moved_after edit new past)
      ];
}

-- the pieces `qs` are one literal with the new text; without a new text they are `ps`, except for positions
abbrev pub IsNewValue : Option (List ℕ) → List Piece → List Piece → Type 0
IsNewValue None ps qs = map (moved_piece (λ at. 0)) qs ≡ map (moved_piece (λ at. 0)) ps
IsNewValue (Some new) ps qs = (q : Part) × (qs ≡ literal q ∷ []) × (q.text ≡ new)

-- pieces that are the new value still are after their positions change
value_moved : (move : ℕ → ℕ) (o : Option (List ℕ)) (ps qs : List Piece) → IsNewValue o ps qs → IsNewValue o ps (map (moved_piece move) qs)
value_moved move None ps qs same = pieces_placeless move qs ∙ same
value_moved move (Some new) ps qs value = (moved_part move value.0, ap (map (moved_piece move)) value.1, value.2)

-- the field `f` becomes `h` by changes from the byte offset `at` on
record IsFieldChanged (changes : List Change) (at : ℕ) (f h : FieldReading) : Type 0 where
  place : IsTracked at f.value.start h.value.start
  name : h.name.text ≡ f.name.text
  value : IsNewValue (new_text (is_value_at f.value.start) changes) f.value.pieces h.value.pieces

-- the entry `e` becomes `g` by changes from the byte offset `at` on
record IsEntryChanged (changes : List Change) (at : ℕ) (e g : EntryReading) : Type 0 where
  place : IsTracked at e.key.start g.key.start
  key : g.key.text ≡ unwrap_or (new_text (is_key_at e.key.start) changes) e.key.text
  fields : AllZip (IsFieldChanged changes at) e.fields g.fields

-- a field remains changed after an edit between `less` and `at`, if the new list of changes has the same new text for its value
field_moved : (edit : Edit) (changes others : List Change) (less at : ℕ) (f h : FieldReading) → less ≤ edit.start → edit.start ≤ edit.end
    → edit.start ≤ at → new_text (is_value_at f.value.start) others ≡ new_text (is_value_at f.value.start) changes
    → IsFieldChanged changes at f h → IsFieldChanged others less f (moved_field (moved_place edit) h)
field_moved edit changes others less at f h first ordered last same c = record {
  place = tracked_moved edit less at f.value.start h.value.start first ordered last c.place;
  name = c.name;
  value =
      subst (λ o. IsNewValue o f.value.pieces (map (moved_piece (moved_place edit)) h.value.pieces)) (sym same)
      (value_moved (moved_place edit) (new_text (is_value_at f.value.start) changes) f.value.pieces h.value.pieces c.value);
}

-- all fields of an entry remain changed after such an edit
fields_moved : (edit : Edit) (changes others : List Change) (less at : ℕ) (fs hs : List FieldReading) → less ≤ edit.start
    → edit.start ≤ edit.end → edit.start ≤ at
    → ((j : ℕ) (f : FieldReading) → slice_get fs j ≡ Some f
    → new_text (is_value_at f.value.start) others ≡ new_text (is_value_at f.value.start) changes)
    → AllZip (IsFieldChanged changes at) fs hs → AllZip (IsFieldChanged others less) fs (map (moved_field (moved_place edit)) hs)
fields_moved edit changes others less at fs hs first ordered last same all =
    zip_into (IsFieldChanged others less) (moved_field (moved_place edit)) fs hs
    (zip_weaker (IsFieldChanged changes at) (λ f h. IsFieldChanged others less f (moved_field (moved_place edit) h)) fs hs
    (λ j f h here there c. field_moved edit changes others less at f h first ordered last (same j f here) c) all)

-- an entry remains changed after an edit between `less` and `at`, if the other list of changes gives it the same new texts
entry_moved : (edit : Edit) (changes others : List Change) (less at : ℕ) (e g : EntryReading) → less ≤ edit.start → edit.start ≤ edit.end
    → edit.start ≤ at → new_text (is_key_at e.key.start) others ≡ new_text (is_key_at e.key.start) changes
    → ((j : ℕ) (f : FieldReading) → slice_get e.fields j ≡ Some f
    → new_text (is_value_at f.value.start) others ≡ new_text (is_value_at f.value.start) changes)
    → IsEntryChanged changes at e g → IsEntryChanged others less e (moved_entry (moved_place edit) g)
entry_moved edit changes others less at e g first ordered last same each c = record {
  place = tracked_moved edit less at e.key.start g.key.start first ordered last c.place;
  key = c.key ∙ ap (λ o. unwrap_or o e.key.text) (sym same);
  fields = fields_moved edit changes others less at e.fields g.fields first ordered last each c.fields;
}

-- changes are in order from a byte offset on, and none is empty
abbrev AreApart : ℕ → List Change → Type 0
AreApart at [] = Unit {0}
AreApart at (change ∷ changes) =
    (at ≤ change_start change) × (change_start change < change_end change) × AreApart (change_end change) changes

module _ (d : Document) (read : IsDocument d) where
  -- each entry of a changed document is the old one at its index with the changes
  entries_changed : {after : Document} {changes : List Change} (at : ℕ) → AreApart at changes → Changed d changes after
      → AllZip (IsEntryChanged changes at) d.says.entries after.says.entries
  entries_changed at apart Changed.none =
      zip_self (IsEntryChanged [] at) d.says.entries
      (λ e.
      record {
        place = record { before = λ below. refl; from = λ above. above };
        key = refl;
        fields =
            zip_self (IsFieldChanged [] at) e.fields
            (λ f. record { place = record { before = λ below. refl; from = λ above. above }; name = refl; value = refl });
      })
  entries_changed at apart (Changed.key {after = before} {changes = rest} {p = p} {new = new} {e = e} k changed here is) =
      let edit : Edit = record { start = e.key.start; end = e.key.end; bytes = new } in
      let move : ℕ → ℕ = moved_place edit in
      let start : e.key.start ≡ p.start = ap (λ q. q.start) is in
      let end : e.key.end ≡ p.end = ap (λ q. q.end) is in
      let all = entries_changed p.end apart.2 changed in
      let own = zip_back (IsEntryChanged rest p.end) d.says.entries before.says.entries k e all here in
      let own_start : own.0.key.start ≡ p.start =
      tracked_back p.end own.0.key.start e.key.start own.2.place (omega (arith, start, apart.1)) ∙ start in
      let first : at ≤ edit.start = omega (arith, start, apart.0) in
      let ordered : edit.start ≤ edit.end = omega (arith, start, end, apart.1) in
      let last : edit.start ≤ p.end = omega (arith, start, apart.1) in
      zip_change (IsEntryChanged rest p.end) (IsEntryChanged (Change.key p new ∷ rest) at) (moved_entry move) d.says.entries
      before.says.entries k e (record (moved_entry move e) { key = text_at (move e.key.start) new }) all here
      (λ i x w other found c.
      entry_moved edit rest (Change.key p new ∷ rest) at p.end x w first ordered last
      (ap (λ b. cond b (Some new) (new_text (is_key_at x.key.start) rest))
      (ne_eqb p.start x.key.start
      (λ equal. other (keys_apart d read i k x own.0 found own.1 (sym equal ∙ sym own_start)))))
      (λ j f there. refl) c)
      (λ x found c.
      let same : x.key.start ≡ p.start =
      tracked_back p.end x.key.start e.key.start c.place (omega (arith, start, apart.1)) ∙ start in
      record {
        place = tracked_moved edit at p.end x.key.start e.key.start first ordered last c.place;
        key =
            sym (ap (λ b. unwrap_or (cond b (Some new) (new_text (is_key_at x.key.start) rest)) x.key.text)
            (eq-eqb p.start x.key.start (sym same)));
        fields =
            fields_moved edit rest (Change.key p new ∷ rest) at p.end x.fields e.fields first ordered last (λ j f there. refl) c.fields;
      })
  entries_changed at apart (Changed.value {after = before} {changes = rest} {f = f} {new = new} {e = e} k j changed here there) =
      let edit : Edit = value_edit before.text f new in
      let move : ℕ → ℕ = moved_place edit in
      let all = entries_changed f.value.end apart.2 changed in
      let own = zip_back (IsEntryChanged rest f.value.end) d.says.entries before.says.entries k e all here in
      let first : at ≤ edit.start = apart.0 in
      let ordered : edit.start ≤ edit.end = omega arith in
      let last : edit.start ≤ f.value.end = omega (arith, apart.1) in
      let value : FieldReading = with_value new (moved_field move f) in
      let own_field = zip_back (IsFieldChanged rest f.value.end) own.0.fields e.fields j f own.2.fields there in
      let own_start : own_field.0.value.start ≡ f.value.start =
      tracked_back f.value.end own_field.0.value.start f.value.start own_field.2.place apart.1 in
      zip_change (IsEntryChanged rest f.value.end) (IsEntryChanged (Change.value f new ∷ rest) at) (moved_entry move) d.says.entries
      before.says.entries k e (record (moved_entry move e) { fields = slice_set (map (moved_field move) e.fields) j value }) all here
      (λ i x w other found c.
      entry_moved edit rest (Change.value f new ∷ rest) at f.value.end x w first ordered last refl
      (λ l h there'.
      ap (λ b. cond b (Some new) (new_text (is_value_at h.value.start) rest))
      (ne_eqb f.value.start h.value.start
      (λ equal.
      other (values_apart d read i k l j x own.0 h own_field.0 found own.1 there' own_field.1 (sym equal ∙ sym own_start)))))
      c)
      (λ x found c.
      let x_field = zip_back (IsFieldChanged rest f.value.end) x.fields e.fields j f c.fields there in
      let x_start : x_field.0.value.start ≡ f.value.start =
      tracked_back f.value.end x_field.0.value.start f.value.start x_field.2.place apart.1 in
      record {
        place = tracked_moved edit at f.value.end x.key.start e.key.start first ordered last c.place;
        key = c.key;
        fields =
            zip_change (IsFieldChanged rest f.value.end) (IsFieldChanged (Change.value f new ∷ rest) at) (moved_field move) x.fields
            e.fields j f value c.fields there
            (λ l h w other there' c'.
            field_moved edit rest (Change.value f new ∷ rest) at f.value.end h w first ordered last
            (ap (λ b. cond b (Some new) (new_text (is_value_at h.value.start) rest))
            (ne_eqb f.value.start h.value.start
            (λ equal. other (fields_apart d read k l j x h x_field.0 found there' x_field.1 (sym equal ∙ sym x_start)))))
            c')
            (λ h there' c'.
            let same : h.value.start ≡ f.value.start =
            tracked_back f.value.end h.value.start f.value.start c'.place apart.1 in
            record {
              place = tracked_moved edit at f.value.end h.value.start f.value.start first ordered last c'.place;
              name = c'.name;
              value =
                  subst (λ b. IsNewValue (cond b (Some new) (new_text (is_value_at h.value.start) rest)) h.value.pieces value.value.pieces)
                  (sym (eq-eqb f.value.start h.value.start (sym same))) (text_at (move f.value.start + 1) new, refl, refl);
            });
      })

-- ---- a document with new keys

-- changes in order are apart from the byte offset `at` on if none is empty
apart_from : (text : List ℕ) (at : ℕ) (changes : List Change) → AreChangesInOrder text at changes
    → AllByRecursion (λ c. change_start c < change_end c) changes → AreApart at changes
apart_from text at [] order some = tt
apart_from text at (change ∷ changes) order some =
    (order.0, some.0, apart_from text (change_end change) changes order.4 some.1)

-- a field has the name of another one, and its value with new names
pub record HasNewNames (names : List ℕ → List ℕ → Option (List ℕ)) (f h : FieldReading) : Type 0 where
  pub name : h.name.text ≡ f.name.text
  pub value : IsNewValue (renamed_value names f) f.value.pieces h.value.pieces

-- the entries `others` have the new keys, and the fields of `entries` with new names in references
pub record AreRenamed (keys : ℕ → Option (List ℕ)) (entries others : List EntryReading) : Type 0 where
  pub key : (k : ℕ) (e g : EntryReading) → slice_get entries k ≡ Some e → slice_get others k ≡ Some g
      → g.key.text ≡ unwrap_or (keys k) e.key.text
  pub fields : AllZip (λ e g. AllZip (HasNewNames (new_reference entries keys)) e.fields g.fields) entries others

-- a document with new keys has the entries of the old one with these keys and with new names in references
pub entries_renamed : (d after : Document) (keys : ℕ → Option (List ℕ)) → IsDocument d → KeysRenamed d keys after
    → AreRenamed keys d.says.entries after.says.entries
entries_renamed d after keys read (KeysRenamed.renamed can changed) =
    let es : List EntryReading = d.says.entries in
    let gs : List EntryReading = after.says.entries in
    let names : List ℕ → List ℕ → Option (List ℕ) = new_reference es keys in
    let changes : List Change = key_renaming keys es in
    let some : AllByRecursion (λ c. change_start c < change_end c) changes =
    renaming_all (λ c. change_start c < change_end c) names keys 0 es
    (λ k at e new is here gets.
    let same : at ≡ k = omega (arith, is) in
    key_some d k e read here (can.may k e new here (ap keys (sym same) ∙ gets)).filled)
    (λ k j e f new here there. value_filled d read k j e f here there) in
    let all : AllZip (IsEntryChanged changes 0) es gs =
    entries_changed d read 0 (apart_from d.text 0 changes (apart_known d keys read can.may) some) changed in
    record {
      key = λ k e g here here'.
          let found = zip_get (IsEntryChanged changes 0) es gs k e all here in
          let same : found.0 ≡ g = some_same (sym found.1 ∙ here') in
          ap (λ (x : EntryReading). x.key.text) (sym same) ∙ found.2.key
          ∙ ap (λ o. unwrap_or o e.key.text)
          (key_known names keys 0 k es k e (omega arith) here (λ i z there equal. keys_apart d read i k z e there here equal));
      fields =
          zip_weaker (IsEntryChanged changes 0) (λ e g. AllZip (HasNewNames names) e.fields g.fields) es gs
          (λ k e g here here' c.
          zip_weaker (IsFieldChanged changes 0) (HasNewNames names) e.fields g.fields
          (λ j f h there there' c'.
          record {
            name = c'.name;
            value =
                subst (λ o. IsNewValue o f.value.pieces h.value.pieces)
                (value_known names keys 0 es k j e f here there
                (λ i l z x found found' equal. values_apart d read i k l j z e x f found here found' there equal)
                (λ l x found equal. fields_apart d read k l j e x f here found there equal)) c'.value;
          }) c.fields) all;
    }
