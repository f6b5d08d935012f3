-- A document after names of types and fields are replaced, from the last to the first: one more name of a type.
use Rattle.std.proofs.Common.{◌≡◌, inl, inr, ℕ, zero, suc, ◌<◌, ◌≤◌, List, [], ◌∷◌, ◌++◌, length, map, refl, sym, ap, ◌∙◌, subst, arith, Some}
use Rattle.std.specs.Prelude.{option_map, slice_get, slice_set}
use Rattle.std.proofs.lemmas.Bool.Decides.{eqb_tells}
use Rattle.std.proofs.lemmas.List.{map-append}
use Rattle.std.proofs.lemmas.Option.{slice_get-map}
use Rattle.std.proofs.lemmas.Str.{len_utf8_bounds}
use Rattle.bib_text.proofs.PlaceFacts.{ahead_char, ahead_run, ahead_then}
use Rattle.bib_syntax.specs.Reading.{Part, EntryReading, FieldReading, FileReading}
use Rattle.bib_syntax.specs.Grammar.{BlockKind, block_kind}
use Rattle.edit_entries.specs.Edits.{Edit, edited, edited_all, moved_place, moved_part, moved_field, moved_entry, moved_file, placeless}
use Rattle.edit_entries.specs.Documents.{CanBeName, Document, IsDocument, entry_edited}
use Rattle.edit_entries.proofs.AgreementFacts.{Agrees, AgreesIn, agrees_before, edited_agrees, get_set_other, moved_agrees, unmoved_part}
use Rattle.edit_entries.proofs.EditFacts.{moved_before}
use Rattle.edit_entries.proofs.MovedFacts.{exchanged}
use Rattle.edit_entries.proofs.RenamedFacts.{key_placed}
use Rattle.edit_entries.proofs.SplitFacts.{split_file}
use Rattle.edit_entries.proofs.PlacelessFacts.{file_placeless}
use Rattle.edit_entries.proofs.KindFacts.{IsWithin, kind_exchanged_read, kind_stretch, with_kind}
use Rattle.edit_entries.proofs.PutFacts.{fields_put, put_at, put_is}
use Rattle.bib_text.proofs.ListFacts.{get_here, get_set, map_set}

-- ---- documents after the edits from a byte offset on

-- the names of types that end at or before a byte offset are the same at the same byte offsets
abbrev pub KindsAgree : ℕ → Document → Document → Type 0
KindsAgree at d after =
    (k : ℕ) (e : EntryReading) → slice_get d.says.entries k ≡ Some e → e.kind.end ≤ at
    → (entry : EntryReading) × (slice_get after.says.entries k ≡ Some entry) × (entry.kind ≡ e.kind)

-- a reading with these entries instead of its own
abbrev pub of_entries : FileReading → List EntryReading → FileReading
of_entries says es = record says { entries = es }

pub record Made (d : Document) (edits : List Edit) (entries : List EntryReading) (at : ℕ) : Type 0 where
  pub after : Document
  pub read : IsDocument after
  pub text : after.text ≡ edited_all edits d.text
  pub agrees : Agrees at d after
  pub kinds : KindsAgree at d after
  pub alike : placeless after.says ≡ placeless (of_entries d.says entries)

pub less_made : (d : Document) (edits : List Edit) (entries : List EntryReading) (at less : ℕ) → less ≤ at
    → Made d edits entries at → Made d edits entries less
less_made d edits entries at less small made = record {
  after = made.after;
  read = made.read;
  text = made.text;
  agrees = agrees_before at less d made.after small made.agrees;
  kinds = λ k e here below. made.kinds k e here (omega arith);
  alike = made.alike;
}

-- the entry at the index `k` has a field at the index `j`, which begins at a byte offset
pub record StandsAt (after : Document) (k j at : ℕ) : Type 0 where
  pub entry : EntryReading
  pub field : FieldReading
  pub here : slice_get after.says.entries k ≡ Some entry
  pub there : slice_get entry.fields j ≡ Some field
  pub start : field.name.start ≡ at

-- if there are fields, the first of them begins at the same byte offset in the new document
abbrev pub FirstStands : Document → ℕ → ℕ → List FieldReading → Type 0
FirstStands after k j [] = Unit {0}
FirstStands after k j (f ∷ fs) = StandsAt after k j f.name.start

-- the edits are made, and the first of some fields begins at the same byte offset as before
pub record MadeFrom (d : Document) (edits : List Edit) (entries : List EntryReading) (at k j : ℕ) (fs : List FieldReading) : Type 0 where
  pub made : Made d edits entries at
  pub first : FirstStands made.after k j fs

pub less_made_from : (d : Document) (edits : List Edit) (entries : List EntryReading) (at less k j : ℕ)
    (fs : List FieldReading) → less ≤ at → MadeFrom d edits entries at k j fs → MadeFrom d edits entries less k j fs
less_made_from d edits entries at less k j fs small from = record {
  made = record {
    after = from.made.after;
    read = from.made.read;
    text = from.made.text;
    agrees = agrees_before at less d from.made.after small from.made.agrees;
    kinds = λ n e here below. from.made.kinds n e here (omega arith);
    alike = from.made.alike;
  };
  first = from.first;
}

-- if the edits after a field are made, the field begins at the same byte offset as before
pub stays_made : (d : Document) (edits : List Edit) (entries : List EntryReading) (k j : ℕ) (e : EntryReading)
    (f : FieldReading) (fs : List FieldReading) → slice_get d.says.entries k ≡ Some e
    → slice_get e.fields j ≡ Some f → Made d edits entries f.value.end
    → MadeFrom d edits entries f.value.end k j (f ∷ fs)
stays_made d edits entries k j e f fs here there made =
    let found = made.agrees.entries k e here in
    record {
      made = made;
      first = record {
        entry = found.0;
        field = f;
        here = found.1;
        there = found.2.fields j f there (omega arith);
        start = refl;
      };
    }

-- ---- the names of types

-- the name of an entry's type isn't empty and ends at or before its key
pub kind_some : (d : Document) (k : ℕ) (e : EntryReading) → IsDocument d → slice_get d.says.entries k ≡ Some e
    → (e.kind.start < e.kind.end) × (e.kind.end ≤ e.key.start)
kind_some d k e read here =
    let b = (split_file k e read here).block in
    let h = b.head in
    let to_key = ahead_then (ahead_run h.white.run) (ahead_then (ahead_char h.opens) (ahead_run h.white'.run)) in
    let end_is = ap (λ p. p.end) h.name.reading in (
      omega (
        arith,
        ap (λ p. p.start) h.name.reading,
        end_is,
        h.name.here.next,
        (len_utf8_bounds h.name.first).0,
        (ahead_run h.name.rest.run).at,
      ),
      omega (arith, end_is, to_key.at, ap (λ p. p.start) b.key_is),
    )

pub kinds_edited : (d after : Document) (edit : Edit) (k : ℕ) (e entry : EntryReading) → IsDocument d
    → KindsAgree edit.start d after → edit.start < edit.end → slice_get d.says.entries k ≡ Some e
    → (e.kind.end ≤ edit.start → entry.kind ≡ e.kind)
    → KindsAgree edit.start d (entry_edited after edit k entry)
kinds_edited d after edit k e entry read a some here kept i x there below =
    let move = moved_place edit in
    let all : List EntryReading = map (moved_entry move) after.says.entries in
    let found = a i x there below in
    let moved : slice_get all i ≡ Some (moved_entry move found.0) =
    slice_get-map (moved_entry move) after.says.entries i ∙ ap (option_map (moved_entry move)) found.1 in
    elim (eqb_tells i k) [
      | inl same ↦
          let is : Some x ≡ Some e = sym there ∙ ap (slice_get d.says.entries) same.1 ∙ here in
          let x_is : x ≡ e = cc in (
            entry,
            subst (λ n. slice_get (slice_set all n entry) i ≡ Some entry) same.1
                (get_set all i (moved_entry move found.0) entry moved),
            kept (subst (λ y. y.kind.end ≤ edit.start) x_is below) ∙ ap (λ y. y.kind) (sym x_is),
          )
      | inr other ↦
          let ordered = (kind_some d i x read there).0 in (
            moved_entry move found.0,
            get_set_other all k i entry other.1 ∙ moved,
            ap (moved_part move) found.2
                ∙ unmoved_part move x.kind (moved_before edit x.kind.start (omega (arith, ordered)))
                (moved_before edit x.kind.end (omega arith)),
          )
    ]

-- ---- readings without byte offsets

map_put : {A B : Type 0} (view : A → B) (xs news : List A) (j : ℕ) → map view (put_at j news xs) ≡ put_at j (map view news) (map view xs)
map_put view [] news j = refl
map_put view (x ∷ xs) news zero = map-append view news xs
map_put view (x ∷ xs) news (suc j) = ap (λ l. view x ∷ l) (map_put view xs news j)

pub get_put : {A : Type 0} (xs news : List A) (j i : ℕ) → i < j → slice_get (put_at j news xs) i ≡ slice_get xs i
get_put [] news j i less = refl
get_put (x ∷ xs) news zero i less = absurd (omega arith)
get_put (x ∷ xs) news (suc j) zero less = refl
get_put (x ∷ xs) news (suc j) (suc i) less = get_put xs news j i (omega arith)

-- an entry without byte offsets
abbrev entry_alone_placeless : EntryReading → EntryReading
entry_alone_placeless e = moved_entry (λ n. 0) e

module _ (d after : Document) (edit : Edit) (before others : List EntryReading) (p : EntryReading)
    (alike : placeless after.says ≡ placeless (of_entries d.says (before ++ p ∷ others))) where
  abbrev k : ℕ
  k = length before

  abbrev move : ℕ → ℕ
  move = moved_place edit

  moved_alike : placeless (moved_file move after.says) ≡ placeless (of_entries d.says (before ++ p ∷ others))
  moved_alike = file_placeless move after.says ∙ alike

  -- the entry at the index of `p`, moved, is `p` except for byte offsets
  pub entry_alike : (entry : EntryReading) → slice_get after.says.entries k ≡ Some entry
      → entry_alone_placeless (moved_entry move entry) ≡ entry_alone_placeless p
  entry_alike entry here =
      let all : List EntryReading = map (moved_entry move) after.says.entries in
      let view = moved_entry (λ n. 0) in
      let moved : slice_get all k ≡ Some (moved_entry move entry) =
      slice_get-map (moved_entry move) after.says.entries k ∙ ap (option_map (moved_entry move)) here in
      let found : slice_get (map view all) k ≡ Some (view (moved_entry move entry)) =
      slice_get-map view all k ∙ ap (option_map view) moved in
      let named : slice_get (map view (before ++ p ∷ others)) k ≡ Some (view p) =
      slice_get-map view (before ++ p ∷ others) k ∙ ap (option_map view) (get_here before p others) in
      let same : Some (view (moved_entry move entry)) ≡ Some (view p) =
      sym found ∙ ap (λ says. slice_get says.entries k) moved_alike ∙ named in
      cc

  pub says_alike : (entry x : EntryReading) → entry_alone_placeless entry ≡ entry_alone_placeless x
      → placeless (entry_edited after edit k entry).says ≡ placeless (of_entries d.says (before ++ x ∷ others))
  says_alike entry x same =
      let view = moved_entry (λ n. 0) in
      let all : List EntryReading = map (moved_entry move) after.says.entries in
      let entries : map view (slice_set all k entry) ≡ map view (before ++ x ∷ others) =
      map_set view all k entry ∙ ap (λ says. slice_set says.entries k (view entry)) moved_alike
      ∙ exchanged view before others p (view entry) k refl
      ∙ ap (λ y. map view before ++ y ∷ map view others) same ∙ sym (map-append view before (x ∷ others)) in
      ap (λ says. of_entries says (map view (slice_set all k entry))) moved_alike
      ∙ ap (of_entries (placeless (of_entries d.says (before ++ p ∷ others)))) entries

  -- the reading with other fields instead of one is the reading with the new fields, except for byte offsets
  pub put_alike : (entry : EntryReading) (fb now : List FieldReading) (f : FieldReading) (news made : List FieldReading)
      → slice_get after.says.entries k ≡ Some entry → p.fields ≡ fb ++ f ∷ now
      → map (moved_field (λ n. 0)) made ≡ map (moved_field (λ n. 0)) news
      → placeless (fields_put after edit k entry (length fb) made).says
      ≡ placeless (of_entries d.says (before ++ (record p { fields = fb ++ (news ++ now) }) ∷ others))
  put_alike entry fb now f news made here fields same =
      let view = moved_field (λ n. 0) in
      let j : ℕ = length fb in
      let moved : EntryReading = moved_entry move entry in
      let x : EntryReading = record p { fields = fb ++ (news ++ now) } in
      let with_fields : EntryReading → List FieldReading → EntryReading =
      λ (e : EntryReading) (fs : List FieldReading). record e { fields = fs } in
      let listed : put_at j (map view made) (map view p.fields) ≡ map view (fb ++ (news ++ now)) =
      ap (λ fs. put_at j (map view made) (map view fs)) fields ∙ put_is view fb now f (map view made) j refl
      ∙ ap (λ l. map view fb ++ (l ++ map view now)) same
      ∙ ap (λ l. map view fb ++ l) (sym (map-append view news now)) ∙ sym (map-append view fb (news ++ now)) in
      says_alike (with_fields moved (put_at j made moved.fields)) x
      (ap (with_fields (entry_alone_placeless moved)) (map_put view moved.fields made j)
      ∙ ap (λ e. with_fields e (put_at j (map view made) e.fields)) (entry_alike entry here)
      ∙ ap (with_fields (entry_alone_placeless p)) listed)

-- ---- one more name of a type

-- an entry with another name of its type
abbrev pub kind_named : List ℕ → EntryReading → EntryReading
kind_named name e = record e { kind = record e.kind { text = name } }

pub kind_made : (d : Document) (edits : List Edit) (before others : List EntryReading) (e p : EntryReading)
    (name : List ℕ) → IsDocument d → slice_get d.says.entries (length before) ≡ Some e → CanBeName name
    → block_kind name ≡ BlockKind.entry
    → Made d edits (before ++ p ∷ others) e.kind.end
    → Made d (kind_stretch e name ∷ edits) (before ++ kind_named name p ∷ others) e.kind.start
kind_made d edits before others e p name read here can is_entry made =
    let k : ℕ = length before in
    let edit : Edit = kind_stretch e name in
    let move = moved_place edit in
    let ordered = kind_some d k e read here in
    let kept = made.kinds k e here (omega arith) in
    let entry = kept.0 in
    let build : Part → Edit = λ (q : Part). record { start = q.start; end = q.end; bytes = name } in
    let same : kind_stretch entry name ≡ edit = ap build kept.2 in
    let read' = kind_exchanged_read made.after k entry name made.read kept.1 can is_entry in
    let step =
    subst
    (λ x.
    IsWithin x made.after.text
    × IsDocument (entry_edited made.after x k (with_kind name (moved_entry (moved_place x) entry))))
    same read' in
    let now : EntryReading = with_kind name (moved_entry move entry) in
    let earlier = agrees_before e.kind.end edit.start d made.after (omega (arith, ordered.0)) made.agrees in
    let in_entry = earlier.entries k e here in
    let entries_same : Some in_entry.0 ≡ Some entry = sym in_entry.1 ∙ kept.1 in
    let entry_is : in_entry.0 ≡ entry = cc in
    let moved = moved_agrees d edit k e entry read ordered.0 here (subst (AgreesIn edit.start e) entry_is in_entry.2) in
    let agrees : AgreesIn edit.start e now = record {
      key = λ below. absurd (omega (arith, below, ordered.0, ordered.1, (key_placed d k e read here).ordered));
      fields = moved.fields;
    } in
    let with_name : EntryReading → EntryReading = λ (x : EntryReading). record x { kind = record { text = name; start = 0; end = 0 } } in
    record {
      after = entry_edited made.after edit k now;
      read = step.1;
      text = ap (edited edit) made.text;
      agrees = edited_agrees d made.after edit k e now read earlier ordered.0 step.0.within here agrees;
      kinds =
          kinds_edited d made.after edit k e now read
          (λ i x there below. made.kinds i x there (omega (arith, ordered.0))) ordered.0 here
          (λ below. absurd (omega (arith, below, ordered.0)));
      alike =
          says_alike d made.after edit before others p made.alike now (kind_named name p)
          (ap with_name (entry_alike d made.after edit before others p made.alike entry kept.1));
    }
