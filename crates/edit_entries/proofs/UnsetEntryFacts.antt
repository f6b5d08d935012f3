-- An entry in which a field is unset.
use Rattle.std.proofs.Common.{◌≡◌, ℕ, zero, suc, ◌+◌, ◌<◌, Bool, true, false, List, [], ◌∷◌, ◌++◌, length, drop, refl, sym, ap, ◌∙◌, subst, arith, Option, Some, None}
use Rattle.std.specs.Prelude.{slice_get, slice_set}
use Rattle.std.specs.List.{list_any}
use Rattle.bib_text.proofs.ListFacts.{get_here}
use Rattle.bib_syntax.specs.Reading.{EntryReading, FieldReading}
use Rattle.edit_entries.specs.Changes.{IsTrimmed}
use Rattle.edit_entries.specs.Documents.{Document, HasEntry, IsDocument, IsEdited, has_name, have_only}
use Rattle.edit_entries.specs.EditList.{AreEditsInOrder}
use Rattle.edit_entries.specs.Edits.{Edit, edited_all, placeless}
use Rattle.edit_entries.specs.Unset.{FieldUnset, or_removals, own_edits, removals, unset_edits, without_named}
use Rattle.edit_entries.proofs.GapEndFacts.{gap_past}
use Rattle.edit_entries.proofs.KeptFacts.{AreEditsWithin, entry_inside, within_earlier, within_order}
use Rattle.edit_entries.proofs.MadeFacts.{of_entries}
use Rattle.edit_entries.proofs.OwnEditFacts.{comma_at, own_edits_removed}
use Rattle.edit_entries.proofs.RemovalFacts.{all_removed, begins, removals_within}

-- ---- lists

-- a list is the elements before an index, the element there, and the elements after it
pub record Around {A : Type 0} (xs : List A) (k : ℕ) (x : A) : Type 0 where
  pub before : List A
  pub following : List A
  pub whole : xs ≡ before ++ x ∷ following
  pub index : length before ≡ k
  pub rest : drop (suc k) xs ≡ following

pub around : {A : Type 0} (xs : List A) (k : ℕ) (x : A) → slice_get xs k ≡ Some x → Around xs k x
around [] k x found = absurd (cc)
around (y ∷ ys) zero x found =
    let same : y ≡ x = cc in
    record { before = []; following = ys; whole = ap (λ z. z ∷ ys) same; index = refl; rest = refl }
around (y ∷ ys) (suc k) x found =
    let more = around ys k x found in
    record {
      before = y ∷ more.before;
      following = more.following;
      whole = ap (λ l. y ∷ l) more.whole;
      index = ap suc more.index;
      rest = more.rest;
    }

pub set_here : {A : Type 0} (before rest : List A) (x y : A) → slice_set (before ++ x ∷ rest) (length before) y ≡ before ++ y ∷ rest
set_here [] rest x y = refl
set_here (b ∷ bs) rest x y = ap (λ l. b ∷ l) (set_here bs rest x y)

-- ---- an entry

-- the text after a field of an entry is unset parses to the document without the fields with the name
pub record EntryUnset (d : Document) (before others : List EntryReading) (e : EntryReading) (name : List ℕ) : Type 0 where
  pub after : Document
  pub read : IsDocument after
  pub text : after.text ≡ edited_all (unset_edits d.text name e) d.text
  pub alike : placeless after.says ≡ placeless (of_entries d.says (before ++ without_named name e ∷ others))
  pub within : AreEditsWithin d.text e.key.end e.end (unset_edits d.text name e)
  pub kept : (i : ℕ) (x : EntryReading) → i < length before → slice_get d.says.entries i ≡ Some x → slice_get after.says.entries i ≡ Some x

module _ (d : Document) (before others : List EntryReading) (e : EntryReading) (name : List ℕ) (read : IsDocument d)
    (whole : d.says.entries ≡ before ++ e ∷ others) (trimmed : (j : ℕ) (f : FieldReading) → slice_get e.fields j ≡ Some f
    → IsTrimmed d.text f) where
  abbrev k : ℕ
  k = length before

  is_here : slice_get d.says.entries k ≡ Some e
  is_here = ap (λ es. slice_get es k) whole ∙ get_here before e others

  -- the fields with the name can be removed up to the next fields, if `unset_edits` are these edits
  several : unset_edits d.text name e ≡ removals name e 0 e.fields → EntryUnset d before others e name
  several edits =
      let all = all_removed d before others e name read whole [] e.fields refl in
      record {
        after = all.after;
        read = all.read;
        text = all.text ∙ ap (λ es. edited_all es d.text) (sym edits);
        alike = all.alike;
        within = subst (AreEditsWithin d.text e.key.end e.end) (sym edits) (removals_within d k e name read is_here);
        kept = all.kept;
      }

  -- the fields with the name can be removed by their own edits, if there is one for each of them
  each : (edits : List Edit) → own_edits d.text name e 0 e.fields ≡ Some edits → EntryUnset d before others e name
  each edits is =
      let x = own_edits_removed d before others e name read whole trimmed [] e.fields edits refl is in
      let same : unset_edits d.text name e ≡ edits = ap (or_removals name e) is in
      record {
        after = x.after;
        read = x.read;
        text = x.text ∙ ap (λ es. edited_all es d.text) (sym same);
        alike = x.alike;
        within =
            subst (AreEditsWithin d.text e.key.end e.end) (sym same)
            (by_case (list_any (has_name name) e.fields) refl x.some x.none);
        kept = x.kept;
      }
    where
      by_case : (some : Bool) → list_any (has_name name) e.fields ≡ some
          → (list_any (has_name name) e.fields ≡ true → AreEditsWithin d.text (comma_at d.text e 0 + 1) e.end edits)
          → (list_any (has_name name) e.fields ≡ false → edits ≡ []) → AreEditsWithin d.text e.key.end e.end edits
      by_case true is some none =
          within_earlier d.text e.key.end (comma_at d.text e 0 + 1) e.end edits (omega (arith, gap_past d.text e.key.end (begins e 0)))
          (some is)
      by_case false is some none =
          subst (AreEditsWithin d.text e.key.end e.end) (sym (none is)) (entry_inside d k e read is_here).key_end

  pub entry_unset : EntryUnset d before others e name
  entry_unset = by_case (own_edits d.text name e 0 e.fields) refl
    where
      by_case : (o : Option (List Edit)) → own_edits d.text name e 0 e.fields ≡ o → EntryUnset d before others e name
      by_case None is = several (ap (or_removals name e) is)
      by_case (Some edits) is = each edits is

-- if a call returns the text with `unset_edits`, it returns the document without the fields. This holds if the entry has no
-- fields, or keeps one
pub field_unset : {S : Type 0} (bytes : S → List ℕ) (d : Document) (key name : List ℕ) (k : ℕ) (e : EntryReading)
    (new : S) → IsDocument d → ((j : ℕ) (f : FieldReading) → slice_get e.fields j ≡ Some f → IsTrimmed d.text f)
    → HasEntry d key k e → have_only name e.fields ≡ false
    → bytes new ≡ edited_all (unset_edits d.text name e) d.text
    → IsEdited (FieldUnset d key name) (bytes new)
field_unset bytes d key name k e new read trimmed entry left is =
    let a = around d.says.entries k e entry.here in
    let x = entry_unset d a.before a.following e name read a.whole trimmed in
    let set : slice_set d.says.entries k (without_named name e) ≡ a.before ++ without_named name e ∷ a.following =
    ap (λ es. slice_set es k (without_named name e)) a.whole
    ∙ ap (λ n. slice_set (a.before ++ e ∷ a.following) n (without_named name e)) (sym a.index)
    ∙ set_here a.before a.following e (without_named name e) in
    record {
      document = x.after;
      outcome = FieldUnset.unset entry left x.text (x.alike ∙ ap (λ es. placeless (of_entries d.says es)) (sym set));
      is = is ∙ sym x.text;
      read = x.read;
    }

-- the edits that unset a field of an entry are in order
pub unset_ordered : (d : Document) (name : List ℕ) (k : ℕ) (e : EntryReading) → IsDocument d
    → ((j : ℕ) (f : FieldReading) → slice_get e.fields j ≡ Some f → IsTrimmed d.text f)
    → slice_get d.says.entries k ≡ Some e → AreEditsInOrder d.text 0 (unset_edits d.text name e)
unset_ordered d name k e read trimmed here =
    let a = around d.says.entries k e here in
    let x = entry_unset d a.before a.following e name read a.whole trimmed in
    within_order d.text 0 e.end (unset_edits d.text name e)
    (within_earlier d.text 0 e.key.end e.end (unset_edits d.text name e) (omega arith) x.within)
