-- A document after names of types and fields are replaced, from the last to the first: one more field.
use Rattle.std.proofs.Common.{◌≡◌, inl, inr, ℕ, zero, suc, ◌<◌, ◌≤◌, List, [], ◌∷◌, ◌++◌, length, map, refl, sym, ap, ◌∙◌, subst, arith, Some}
use Rattle.std.specs.Prelude.{option_map, slice_get}
use Rattle.std.specs.List.{remove}
use Rattle.std.specs.Option.{option_map_or}
use Rattle.std.proofs.lemmas.Bool.{cases_lt}
use Rattle.std.proofs.lemmas.Option.{slice_get-map}
use Rattle.std.proofs.lemmas.Str.{len_utf8_bounds}
use Rattle.bib_text.proofs.PlaceFacts.{ahead_char, ahead_run, ahead_then}
use Rattle.bib_text.proofs.ListFacts.{get_set}
use Rattle.bib_syntax.specs.Reading.{EntryReading, FieldReading}
use Rattle.bib_syntax.proofs.FieldFacts.{ahead_elements}
use Rattle.edit_entries.specs.Edits.{Edit, edited, moved_place, moved_part, moved_field, moved_entry}
use Rattle.edit_entries.specs.Documents.{Document, IsDocument, entry_edited, field_edit, field_limit}
use Rattle.edit_entries.proofs.AgreementFacts.{Agrees, AgreesIn, agrees_before, edited_agrees, moved_agrees, unmoved_part}
use Rattle.edit_entries.proofs.EditFacts.{moved_after, moved_before}
use Rattle.edit_entries.proofs.MadeFacts.{Made, MadeFrom, get_put, kind_some, kinds_edited, put_alike}
use Rattle.edit_entries.proofs.SplitFacts.{split_fields, split_file}
use Rattle.edit_entries.proofs.UnsetFacts.{ends_before, field_removed_read, fields_placed, limit_past}
use Rattle.edit_entries.proofs.KindFacts.{IsWithin}
use Rattle.edit_entries.proofs.PutFacts.{Begins, fields_put, put_at}

-- a field has a name that isn't empty, and then its value
pub field_span : (d : Document) (k : ℕ) (e : EntryReading) (j : ℕ) (f : FieldReading) → IsDocument d
    → slice_get d.says.entries k ≡ Some e → slice_get e.fields j ≡ Some f
    → (f.name.start < f.name.end) × (f.name.end ≤ f.value.start) × (f.value.start ≤ f.value.end)
field_span d k e j f read here there =
    let field = (split_fields j f (split_file k e read here).block.fields there).field in
    let to_value = ahead_then (ahead_run field.white.run) (ahead_then (ahead_char field.sign) (ahead_run field.white'.run)) in
    let name = field.name in
    let end_is = ap (λ p. p.end) name.reading in (
      omega (
        arith,
        ap (λ p. p.start) name.reading,
        end_is,
        name.here.next,
        (len_utf8_bounds name.first).0,
        (ahead_run name.rest.run).at,
      ),
      omega (arith, end_is, to_value.at, field.starts),
      omega (arith, field.starts, field.ends, (ahead_elements field.elements).at),
    )

-- Other fields replace a field. The entry agrees with itself before that, up to the start of an edit in this field, whose stretch isn't
-- empty
put_agrees : (d : Document) (edit : Edit) (k : ℕ) (e entry : EntryReading) (j : ℕ) (f : FieldReading)
    (news : List FieldReading) → IsDocument d → edit.start < edit.end → edit.start < f.value.end
    → slice_get d.says.entries k ≡ Some e → slice_get e.fields j ≡ Some f → AgreesIn edit.start e entry
    → AgreesIn edit.start e
    (record (moved_entry (moved_place edit) entry)
    { fields = put_at j news (map (moved_field (moved_place edit)) entry.fields) })
put_agrees d edit k e entry j f news read some inside here there a =
    let moved = moved_agrees d edit k e entry read some here a in
    record {
      key = moved.key;
      fields = λ i x found below.
          get_put (map (moved_field (moved_place edit)) entry.fields) news j i (earlier i x found below)
          ∙ moved.fields i x found below;
    }
  where
    earlier : (i : ℕ) (x : FieldReading) → slice_get e.fields i ≡ Some x → x.value.end ≤ edit.start → i < j
    earlier i x found below =
        let span = field_span d k e j f read here there in
        elim (cases_lt i j) [
          | inl less ↦ less
          | inr past ↦
              elim (cases_lt j i) [
                | inl more ↦ absurd
                    (let other = field_span d k e i x read here found in
                    omega (
                      arith,
                      below,
                      inside,
                      span.0,
                      span.1,
                      span.2,
                      other.0,
                      other.1,
                      other.2,
                      ends_before d k e j i f x read here more there found,
                    ))
                | inr last ↦ absurd (
                    let same : i ≡ j = omega arith in
                    let is : Some x ≡ Some f = sym found ∙ ap (slice_get e.fields) same ∙ there in
                    let x_is : x ≡ f = cc in
                    omega (arith, below, inside, ap (λ y. y.value.end) x_is))
              ]
        ]

-- if elements replace one element, the first of them is at its index
get_put_first : {A : Type 0} (xs : List A) (x y : A) (others : List A) (j : ℕ) → slice_get xs j ≡ Some y
    → slice_get (put_at j (x ∷ others) xs) j ≡ Some x
get_put_first [] x y others j there = absurd (cc)
get_put_first (z ∷ zs) x y others zero there = refl
get_put_first (z ∷ zs) x y others (suc j) there = get_put_first zs x y others j there

-- if an element is removed, the next one is at its index
get_put_none : {A : Type 0} (xs : List A) (j : ℕ) → slice_get (put_at j [] xs) j ≡ slice_get xs (suc j)
get_put_none [] j = refl
get_put_none (x ∷ xs) zero = refl
get_put_none (x ∷ xs) (suc j) = get_put_none xs j

pub none_put : {A : Type 0} (xs : List A) (j : ℕ) → remove xs j ≡ put_at j [] xs
none_put [] zero = refl
none_put [] (suc j) = refl
none_put (x ∷ xs) zero = refl
none_put (x ∷ xs) (suc j) = ap (λ l. x ∷ l) (none_put xs j)

-- an edit of a field replaces it by other fields in each document that agrees with this one up to the end of the field
pub record IsPut (d : Document) (f : FieldReading) (edit : Edit) (news : List FieldReading) : Type 0 where
  pub start : f.name.start ≤ edit.start
  pub inside : edit.start < f.value.end
  pub read : (at k : ℕ) (after : Document) (entry : EntryReading) (j : ℕ) → f.value.end ≤ at → Agrees at d after
      → IsDocument after → slice_get after.says.entries k ≡ Some entry → slice_get entry.fields j ≡ Some f
      → (made : List FieldReading) × (map (moved_field (λ n. 0)) made ≡ map (moved_field (λ n. 0)) news)
      × IsWithin edit after.text × IsDocument (fields_put after edit k entry j made) × Begins made f.name.start

-- if the edits of later parts are made, an edit that replaces the field `f` by the fields `news` can be made too
field_stepped : (d : Document) (edits : List Edit) (before others : List EntryReading) (e p entry : EntryReading)
    (fb now fs : List FieldReading) (f g : FieldReading) (edit : Edit) (news given : List FieldReading)
    → IsDocument d → slice_get d.says.entries (length before) ≡ Some e
    → slice_get e.fields (length fb) ≡ Some f → p.fields ≡ fb ++ f ∷ now
    → (made : Made d edits (before ++ p ∷ others) f.value.end) → f.name.start ≤ edit.start → edit.start < f.value.end
    → slice_get made.after.says.entries (length before) ≡ Some entry
    → map (moved_field (λ n. 0)) given ≡ map (moved_field (λ n. 0)) news → IsWithin edit made.after.text
    → IsDocument (fields_put made.after edit (length before) entry (length fb) given)
    → slice_get (put_at (length fb) given (map (moved_field (moved_place edit)) entry.fields)) (length fb) ≡ Some g
    → g.name.start ≡ f.name.start
    → MadeFrom d (edit ∷ edits) (before ++ (record p { fields = fb ++ (news ++ now) }) ∷ others) f.name.start
    (length before) (length fb) (f ∷ fs)
field_stepped d edits before others e p entry fb now fs f g edit news given read here there fields made start inside
    found alike within step first begins =
    let k : ℕ = length before in
    let j : ℕ = length fb in
    let move = moved_place edit in
    let span = field_span d k e j f read here there in
    let some = within.some in
    let earlier = agrees_before f.value.end edit.start d made.after (omega (arith, inside)) made.agrees in
    let in_entry = earlier.entries k e here in
    let entries_same : Some in_entry.0 ≡ Some entry = sym in_entry.1 ∙ found in
    let entry_is : in_entry.0 ≡ entry = cc in
    let agrees = put_agrees d edit k e entry j f given read some inside here there (subst (AgreesIn edit.start e) entry_is in_entry.2) in
    let entry' : EntryReading = record (moved_entry move entry) { fields = put_at j given (map (moved_field move) entry.fields) } in
    let placed = edited_agrees d made.after edit k e entry' read earlier some within.within here agrees in
    let kept = λ (below : e.kind.end ≤ edit.start).
    let kind = made.kinds k e here (omega (arith, below, inside)) in
    let kinds_same : Some kind.0 ≡ Some entry = sym kind.1 ∙ found in
    let kind_is : kind.0 ≡ entry = cc in
    ap (λ x. moved_part move x.kind) (sym kind_is) ∙ ap (moved_part move) kind.2
    ∙ unmoved_part move e.kind (moved_before edit e.kind.start (omega (arith, (kind_some d k e read here).0, some)))
    (moved_before edit e.kind.end (omega (arith, some))) in
    let kinds =
    kinds_edited d made.after edit k e entry' read
    (λ i x there below. made.kinds i x there (omega (arith, below, inside))) some here kept in
    let result : Document = fields_put made.after edit k entry j given in
    let moved_here : slice_get (map (moved_entry move) made.after.says.entries) k ≡ Some (moved_entry move entry) =
    slice_get-map (moved_entry move) made.after.says.entries k ∙ ap (option_map (moved_entry move)) found in
    record {
      made = record {
        after = result;
        read = step;
        text = ap (edited edit) made.text;
        agrees = agrees_before edit.start f.name.start d result start placed;
        kinds = λ i x there below. kinds i x there (omega (arith, below, start));
        alike = put_alike d made.after edit before others p made.alike entry fb now f news given found fields alike;
      };
      first = record {
        entry = entry';
        field = g;
        here =
            get_set (map (moved_entry move) made.after.says.entries) k (moved_entry move entry) entry' moved_here;
        there = first;
        start = begins;
      };
    }

pub field_made : (d : Document) (edits : List Edit) (before others : List EntryReading) (e p : EntryReading)
    (fb now fs : List FieldReading) (f : FieldReading) (edit : Edit) (news : List FieldReading) → IsDocument d
    → slice_get d.says.entries (length before) ≡ Some e
    → slice_get e.fields (length fb) ≡ Some f → p.fields ≡ fb ++ f ∷ now → IsPut d f edit news
    → Made d edits (before ++ p ∷ others) f.value.end
    → MadeFrom d (edit ∷ edits) (before ++ (record p { fields = fb ++ (news ++ now) }) ∷ others) f.name.start
    (length before) (length fb) (f ∷ fs)
field_made d edits before others e p fb now fs f edit news read here there fields put made =
    let k : ℕ = length before in
    let j : ℕ = length fb in
    let found = made.agrees.entries k e here in
    let entry = found.0 in
    let there' : slice_get entry.fields j ≡ Some f = found.2.fields j f there (omega arith) in
    let step = put.read f.value.end k made.after entry j (omega arith) made.agrees made.read found.1 there' in
    let starts = step.4 in
    let all : List FieldReading = map (moved_field (moved_place edit)) entry.fields in
    let moved_there : slice_get all j ≡ Some (moved_field (moved_place edit) f) =
    slice_get-map (moved_field (moved_place edit)) entry.fields j
    ∙ ap (option_map (moved_field (moved_place edit))) there' in
    field_stepped d edits before others e p entry fb now fs f starts.first edit news step.0 read here there fields made
    put.start put.inside found.1 step.1 step.2 step.3
    (ap (λ l. slice_get (put_at j l all) j) starts.are
    ∙ get_put_first all starts.first (moved_field (moved_place edit) f) starts.others j moved_there)
    starts.start

-- if the edits of later parts are made, the edit that removes the field `f` up to the next one can be made too
pub field_gone : (d : Document) (edits : List Edit) (before others : List EntryReading) (e p : EntryReading)
    (fb now fs : List FieldReading) (f g : FieldReading) → IsDocument d
    → slice_get d.says.entries (length before) ≡ Some e
    → slice_get e.fields (length fb) ≡ Some f → p.fields ≡ fb ++ f ∷ now
    → MadeFrom d edits (before ++ p ∷ others) f.value.end (length before) (suc (length fb)) (g ∷ fs)
    → MadeFrom d (record { start = f.name.start; end = g.name.start; bytes = [] } ∷ edits)
    (before ++ (record p { fields = fb ++ now }) ∷ others) f.name.start (length before) (length fb) (f ∷ g ∷ fs)
field_gone d edits before others e p fb now fs f g read here there fields from =
    let k : ℕ = length before in
    let j : ℕ = length fb in
    let made = from.made in
    let stands = from.first in
    let found = made.agrees.entries k e here in
    let entry = found.0 in
    let there' : slice_get entry.fields j ≡ Some f = found.2.fields j f there (omega arith) in
    let entries_same : Some stands.entry ≡ Some entry = sym stands.here ∙ found.1 in
    let entry_is : stands.entry ≡ entry = cc in
    let next : slice_get entry.fields (suc j) ≡ Some stands.field =
    subst (λ x. slice_get x.fields (suc j) ≡ Some stands.field) entry_is stands.there in
    let limit : field_limit entry j ≡ g.name.start = ap (λ o. option_map_or (λ h. h.name.start) o entry.end) next ∙ stands.start in
    let build : ℕ → Edit = λ (end : ℕ). record { start = f.name.start; end = end; bytes = [] } in
    let edit : Edit = build g.name.start in
    let removed : ℕ → Edit → List FieldReading → Document =
    λ (n : ℕ) (x : Edit) (l : List FieldReading).
    entry_edited made.after x n (record (moved_entry (moved_place x) entry) { fields = l }) in
    let span = field_span d k e j f read here there in
    let taken = field_removed_read made.after k entry j f made.read found.1 there' in
    let old : Edit = field_edit entry j f in
    let as_put : IsDocument (fields_put made.after old k entry j []) =
    subst (λ l. IsDocument (removed k old l)) (none_put (map (moved_field (moved_place old)) entry.fields) j) taken in
    let step : IsDocument (fields_put made.after edit k entry j []) =
    subst (λ n. IsDocument (fields_put made.after (build n) k entry j [])) limit as_put in
    let some : edit.start < edit.end = omega (arith, limit, limit_past made.after k entry j f made.read found.1 there') in
    let within : edit.start ≤ length made.after.text = (fields_placed made.after k entry made.read found.1 j f there').start.0 in
    let all : List FieldReading = map (moved_field (moved_place edit)) entry.fields in
    let moved_next : slice_get all (suc j) ≡ Some (moved_field (moved_place edit) stands.field) =
    slice_get-map (moved_field (moved_place edit)) entry.fields (suc j)
    ∙ ap (option_map (moved_field (moved_place edit))) next in
    field_stepped d edits before others e p entry fb now (g ∷ fs) f (moved_field (moved_place edit) stands.field) edit
    [] [] read here there fields made (omega arith) (omega (arith, span.0, span.1, span.2)) found.1 refl
    (record { some = some; within = within }) step
    (get_put_none all j ∙ moved_next) (omega (arith, moved_after edit stands.field.name.start (omega (arith, stands.start)), stands.start))
