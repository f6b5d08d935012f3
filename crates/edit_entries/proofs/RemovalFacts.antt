-- Several fields of an entry are removed, from the last to the first.
use Rattle.std.proofs.Common.{◌≡◌, ℕ, zero, suc, ◌+◌, ◌<◌, ◌≤◌, Bool, true, false, cond, List, [], ◌∷◌, ◌++◌, length, map, take, get_or, refl, sym, ap, ◌∙◌, subst, arith, append_assoc, append-nil, length-append, Option, Some, None}
use Rattle.std.specs.Prelude.{filter, not, option_map, slice_get}
use Rattle.std.specs.List.{remove}
use Rattle.std.specs.Option.{option_map_or}
use Rattle.std.specs.Str.{IsCharBoundary}
use Rattle.std.proofs.lemmas.List.{map-append, take_more, length-map, length-take-le}
use Rattle.bib_text.proofs.ListFacts.{get_here, get_set}
use Rattle.std.proofs.lemmas.Option.{slice_get-map}
use Rattle.bib_syntax.specs.Reading.{FieldReading, EntryReading}
use Rattle.edit_entries.specs.Edits.{Edit, edited, edited_all, moved_place, moved_field, moved_entry, placeless}
use Rattle.edit_entries.specs.Documents.{Document, IsDocument, entry_edited, field_edit, field_limit, has_name}
use Rattle.edit_entries.specs.Unset.{removals}
use Rattle.edit_entries.proofs.EditFacts.{moved_after, moved_before}
use Rattle.edit_entries.proofs.AgreementFacts.{field_stays, get_set_other}
use Rattle.edit_entries.proofs.KeptFacts.{AreEditsWithin, entry_inside, entry_stays, field_inside, within_earlier}
use Rattle.edit_entries.proofs.UnsetFacts.{ends_before, field_cut, field_removed, field_removed_read, fields_placed, limit_past}
use Rattle.edit_entries.proofs.FieldMadeFacts.{none_put}
use Rattle.edit_entries.proofs.MadeFacts.{of_entries, put_alike}

-- ---- lists without one of their elements

pub get_remove_before : {A : Type 0} (xs : List A) (k i : ℕ) → i < k → slice_get (remove xs k) i ≡ slice_get xs i
get_remove_before [] zero i less = absurd (omega arith)
get_remove_before [] (suc k) i less = refl
get_remove_before (x ∷ xs) zero i less = absurd (omega arith)
get_remove_before (x ∷ xs) (suc k) zero less = refl
get_remove_before (x ∷ xs) (suc k) (suc i) less = get_remove_before xs k i (omega arith)

get_remove_at : {A : Type 0} (xs : List A) (k : ℕ) → slice_get (remove xs k) k ≡ slice_get xs (suc k)
get_remove_at [] zero = refl
get_remove_at [] (suc k) = refl
get_remove_at (x ∷ xs) zero = refl
get_remove_at (x ∷ xs) (suc k) = get_remove_at xs k

-- the fields that don't have a name
abbrev pub unnamed : List ℕ → List FieldReading → List FieldReading
unnamed name fs = filter (λ f. not (has_name name f)) fs

-- an entry with these fields instead of its own
abbrev pub with_fields : EntryReading → List FieldReading → EntryReading
with_fields e fs = record e { fields = fs }

-- the byte offset at which the field with an index begins, or else that of the closing brace
abbrev pub begins : EntryReading → ℕ → ℕ
begins e n = option_map_or (λ f. f.name.start) (slice_get e.fields n) e.end

-- the document after the fields `fs` with the name are removed from the entry; the fields `fb` before them are kept
pub record Removed (d : Document) (before others : List EntryReading) (e : EntryReading) (name : List ℕ)
    (fb fs : List FieldReading) : Type 0 where
  pub after : Document
  pub read : IsDocument after
  pub text : after.text ≡ edited_all (removals name e (length fb) fs) d.text
  pub entry : EntryReading
  pub here : slice_get after.says.entries (length before) ≡ Some entry
  pub fields : (i : ℕ) (f : FieldReading) → i < length fb → slice_get e.fields i ≡ Some f → slice_get entry.fields i ≡ Some f
  pub limit : begins entry (length fb) ≡ begins e (length fb)
  pub kept : (i : ℕ) (x : EntryReading) → i < length before → slice_get d.says.entries i ≡ Some x → slice_get after.says.entries i ≡ Some x
  pub alike : placeless after.says ≡ placeless (of_entries d.says (before ++ with_fields e (fb ++ unnamed name fs) ∷ others))

-- an entry begins at or before each of its fields
pub start_in_fields : (d : Document) (k : ℕ) (e : EntryReading) (j : ℕ) (f : FieldReading) → IsDocument d
    → slice_get d.says.entries k ≡ Some e → slice_get e.fields j ≡ Some f → e.start ≤ f.name.start
start_in_fields d k e j f read here there =
    let at = entry_inside d k e read here in
    omega (arith, at.kind_start, at.kind, at.key_start, at.key, (field_inside d k e j f read here there).start)

-- after an edit without new bytes up to the next field or the closing brace, this begins at the start of the edit
limit_moved : (edit : Edit) (o : Option FieldReading) (end : ℕ) → option_map_or (λ f. f.name.start) o end ≡ edit.end
    → edit.bytes ≡ []
    → option_map_or (λ f. f.name.start) (option_map (moved_field (moved_place edit)) o) (moved_place edit end)
    ≡ edit.start
limit_moved edit None end is none = omega (arith, moved_after edit end (omega arith), is, ap length none)
limit_moved edit (Some f) end is none = omega (arith, moved_after edit f.name.start (omega arith), is, ap length none)

-- an edit of `after` removes the field after `fb` of an entry. The fields and entries before it are kept. The reading is that of `d`
-- without this field and without those of the fields `fs` after it that have the name
pub record FieldCutOut (d after : Document) (before others : List EntryReading) (e x : EntryReading) (name : List ℕ)
    (fb fs : List FieldReading) (edit : Edit) : Type 0 where
  pub here : slice_get (field_cut after (length before) x (length fb) edit).says.entries (length before)
      ≡ Some (with_fields (moved_entry (moved_place edit) x) (remove (map (moved_field (moved_place edit)) x.fields) (length fb)))
  pub fields : (i : ℕ) (g : FieldReading) → i < length fb → slice_get e.fields i ≡ Some g
      → slice_get (remove (map (moved_field (moved_place edit)) x.fields) (length fb)) i ≡ Some g
  pub kept : (i : ℕ) (y : EntryReading) → i < length before → slice_get d.says.entries i ≡ Some y
      → slice_get (field_cut after (length before) x (length fb) edit).says.entries i ≡ Some y
  pub alike : placeless (field_cut after (length before) x (length fb) edit).says
      ≡ placeless (of_entries d.says (before ++ with_fields e (fb ++ unnamed name fs) ∷ others))

pub field_cut_out : (d after : Document) (before others : List EntryReading) (e x : EntryReading) (name : List ℕ)
    (fb : List FieldReading) (f : FieldReading) (fs : List FieldReading) (edit : Edit) → IsDocument after
    → slice_get after.says.entries (length before) ≡ Some x → slice_get x.fields (length fb) ≡ Some f
    → ((m : ℕ) → m ≤ f.name.start → moved_place edit m ≡ m) → has_name name f ≡ true
    → ((i : ℕ) (g : FieldReading) → i < length (fb ++ f ∷ []) → slice_get e.fields i ≡ Some g → slice_get x.fields i ≡ Some g)
    → ((i : ℕ) (y : EntryReading) → i < length before → slice_get d.says.entries i ≡ Some y → slice_get after.says.entries i ≡ Some y)
    → placeless after.says ≡ placeless (of_entries d.says (before ++ with_fields e ((fb ++ f ∷ []) ++ unnamed name fs) ∷ others))
    → FieldCutOut d after before others e x name fb (f ∷ fs) edit
field_cut_out d after before others e x name fb f fs edit read here there stays named fields kept alike =
    let k : ℕ = length before in
    let n : ℕ = length fb in
    let move = moved_place edit in
    let size : length (fb ++ f ∷ []) ≡ suc n = omega (arith, length-append fb (f ∷ [])) in
    let z : EntryReading = with_fields (moved_entry move x) (remove (map (moved_field move) x.fields) n) in
    let moved_here = slice_get-map (moved_entry move) after.says.entries k ∙ ap (option_map (moved_entry move)) here in
    let p : EntryReading = with_fields e ((fb ++ f ∷ []) ++ unnamed name fs) in
    let put_entry : List FieldReading → EntryReading = λ (fs : List FieldReading). with_fields (moved_entry move x) fs in
    let put =
    put_alike d after edit before others p alike x fb (unnamed name fs) f [] [] here
    (append_assoc fb (f ∷ []) (unnamed name fs)) refl in
    let left : unnamed name (f ∷ fs) ≡ unnamed name fs = ap (λ b. cond (not b) (f ∷ unnamed name fs) (unnamed name fs)) named in
    record {
      here = get_set (map (moved_entry move) after.says.entries) k (moved_entry move x) z moved_here;
      fields = λ i g less found.
          let found' = fields i g (omega (arith, size, less)) found in
          get_remove_before (map (moved_field move) x.fields) n i less ∙ slice_get-map (moved_field move) x.fields i
          ∙ ap (option_map (moved_field move)) found'
          ∙ ap Some
          (field_stays after k x i g move f.name.start read here found'
          (ends_before after k x i n g f read here less found' there) stays);
      kept = λ i y less found.
          let found' = kept i y less found in
          get_set_other (map (moved_entry move) after.says.entries) k i z (λ same. omega (arith, same, less))
          ∙ slice_get-map (moved_entry move) after.says.entries i ∙ ap (option_map (moved_entry move)) found'
          ∙ ap Some
          (entry_stays after i k y x move read found' here less
          (λ m small. stays m (omega (arith, small, start_in_fields after k x n f read here there))));
      alike =
          ap (λ l. placeless (entry_edited after edit k (put_entry l)).says) (none_put (map (moved_field move) x.fields) n)
          ∙ put ∙ ap (λ l. placeless (of_entries d.says (before ++ with_fields e (fb ++ l) ∷ others))) (sym left);
    }

module _ (d : Document) (before others : List EntryReading) (e : EntryReading) (name : List ℕ) (read : IsDocument d)
    (whole : d.says.entries ≡ before ++ e ∷ others) where
  abbrev k : ℕ
  k = length before

  is_here : slice_get d.says.entries k ≡ Some e
  is_here = ap (λ es. slice_get es k) whole ∙ get_here before e others

  one_removed : (fb : List FieldReading) (f : FieldReading) (fs : List FieldReading) → e.fields ≡ fb ++ f ∷ fs
      → Removed d before others e name (fb ++ f ∷ []) fs → has_name name f ≡ true → Removed d before others e name fb (f ∷ fs)
  one_removed fb f fs cut rest named =
      let n : ℕ = length fb in
      let x = rest.entry in
      let size : length (fb ++ f ∷ []) ≡ suc n = omega (arith, length-append fb (f ∷ [])) in
      let there : slice_get e.fields n ≡ Some f = ap (λ xs. slice_get xs n) cut ∙ get_here fb f fs in
      let there' : slice_get x.fields n ≡ Some f = rest.fields n f (omega (arith, size)) there in
      let edit : Edit = field_edit x n f in
      let move = moved_place edit in
      let build : ℕ → Edit = λ (end : ℕ). record { start = f.name.start; end = end; bytes = [] } in
      let some : f.name.start < field_limit x n = limit_past rest.after k x n f rest.read rest.here there' in
      let more : List Edit = removals name e (suc n) fs in
      let edit_is : edit ≡ field_edit e n f = ap build (subst (λ m. begins x m ≡ begins e m) size rest.limit) in
      let with_edit : Bool → List Edit = λ (b : Bool). cond b (field_edit e n f ∷ []) [] ++ more in
      let gone =
      field_cut_out d rest.after before others e x name fb f fs edit rest.read rest.here there'
      (λ m small. moved_before edit m (omega (arith, small, some)))
      named rest.fields rest.kept rest.alike in
      record {
        after = field_removed rest.after k x n f;
        read = field_removed_read rest.after k x n f rest.read rest.here there';
        text =
            ap (edited edit) rest.text ∙ ap (λ m. edited edit (edited_all (removals name e m fs) d.text)) size
            ∙ ap (λ y. edited y (edited_all more d.text)) edit_is
            ∙ ap (λ b. edited_all (with_edit b) d.text) (sym named);
        entry = with_fields (moved_entry move x) (remove (map (moved_field move) x.fields) n);
        here = gone.here;
        fields = gone.fields;
        limit =
            ap (λ o. option_map_or (λ g. g.name.start) o (move x.end))
            (get_remove_at (map (moved_field move) x.fields) n ∙ slice_get-map (moved_field move) x.fields (suc n))
            ∙ limit_moved edit (slice_get x.fields (suc n)) x.end refl refl
            ∙ sym (ap (λ o. option_map_or (λ g. g.name.start) o e.end) there);
        kept = gone.kept;
        alike = gone.alike;
      }

  pub all_removed : (fb fs : List FieldReading) → e.fields ≡ fb ++ fs → Removed d before others e name fb fs
  all_removed fb [] cut = record {
    after = d;
    read = read;
    text = refl;
    entry = e;
    here = is_here;
    fields = λ i f less found. found;
    limit = refl;
    kept = λ i x less found. found;
    alike = ap (λ es. placeless (of_entries d.says es)) whole ∙ ap (λ l. placeless (of_entries d.says
        (before ++ with_fields e l ∷ others))) cut;
  }
  all_removed fb (f ∷ fs) cut =
      let rest = all_removed (fb ++ f ∷ []) fs (cut ∙ sym (append_assoc fb (f ∷ []) fs)) in
      by_case fb f fs cut rest (has_name name f) refl
    where
      by_case : (fb : List FieldReading) (f : FieldReading) (fs : List FieldReading) → e.fields ≡ fb ++ f ∷ fs
          → Removed d before others e name (fb ++ f ∷ []) fs → (b : Bool) → has_name name f ≡ b
          → Removed d before others e name fb (f ∷ fs)
      by_case fb f fs cut rest true is = one_removed fb f fs cut rest is
      by_case fb f fs cut rest false is =
          let n : ℕ = length fb in
          let size : length (fb ++ f ∷ []) ≡ suc n = omega (arith, length-append fb (f ∷ [])) in
          let there : slice_get e.fields n ≡ Some f = ap (λ xs. slice_get xs n) cut ∙ get_here fb f fs in
          let more : List Edit = removals name e (suc n) fs in
          let with_edit : Bool → List Edit = λ (b : Bool). cond b (field_edit e n f ∷ []) [] ++ more in
          let left : f ∷ unnamed name fs ≡ unnamed name (f ∷ fs) =
          ap (λ b. cond (not b) (f ∷ unnamed name fs) (unnamed name fs)) (sym is) in
          record {
            after = rest.after;
            read = rest.read;
            text =
                rest.text ∙ ap (λ m. edited_all (removals name e m fs) d.text) size
                ∙ ap (λ b. edited_all (with_edit b) d.text) (sym is);
            entry = rest.entry;
            here = rest.here;
            fields = λ i g less found. rest.fields i g (omega (arith, size)) found;
            limit =
                ap (λ o. option_map_or (λ g. g.name.start) o rest.entry.end) (rest.fields n f (omega (arith, size)) there)
                ∙ sym (ap (λ o. option_map_or (λ g. g.name.start) o e.end) there);
            kept = rest.kept;
            alike =
                rest.alike
                ∙ ap (λ l. placeless (of_entries d.says (before ++ with_fields e l ∷ others)))
                (append_assoc fb (f ∷ []) (unnamed name fs) ∙ ap (λ l. fb ++ l) left);
          }

-- ---- the edits

-- the next field or the closing brace is at or before the end of the entry
begins_inside : (d : Document) (k : ℕ) (e : EntryReading) (n : ℕ) → IsDocument d → slice_get d.says.entries k ≡ Some e → begins e n ≤ e.end
begins_inside d k e n read here = by_case (slice_get e.fields n) refl
  where
    by_case : (o : Option FieldReading) → slice_get e.fields n ≡ o → option_map_or (λ f. f.name.start) o e.end ≤ e.end
    by_case None is = omega arith
    by_case (Some f) is = let at = field_inside d k e n f read here is in omega (arith, at.name, at.value, at.end)

begins_past : (d : Document) (k : ℕ) (e : EntryReading) (n : ℕ) → IsDocument d → slice_get d.says.entries k ≡ Some e
    → e.key.end ≤ begins e n
begins_past d k e n read here = by_case (slice_get e.fields n) refl
  where
    by_case : (o : Option FieldReading) → slice_get e.fields n ≡ o → e.key.end ≤ option_map_or (λ f. f.name.start) o e.end
    by_case None is = (entry_inside d k e read here).key_end
    by_case (Some f) is = (field_inside d k e n f read here is).start

order_from : (d : Document) (k : ℕ) (e : EntryReading) (name : List ℕ) (n : ℕ) (fs : List FieldReading) → IsDocument d
    → slice_get d.says.entries k ≡ Some e → begins e n ≤ e.end
    → ((i : ℕ) (f : FieldReading) → slice_get fs i ≡ Some f → slice_get e.fields (n + i) ≡ Some f)
    → AreEditsWithin d.text (begins e n) e.end (removals name e n fs)
order_from d k e name n [] read here inside among = inside
order_from d k e name n (f ∷ fs) read here inside among =
    let zero_is : n + 0 ≡ n = omega arith in
    let there : slice_get e.fields n ≡ Some f = subst (λ m. slice_get e.fields m ≡ Some f) zero_is (among 0 f refl) in
    let rest =
    order_from d k e name (suc n) fs read here (begins_inside d k e (suc n) read here)
    (λ i x found.
    let same : n + suc i ≡ suc n + i = omega arith in
    subst (λ m. slice_get e.fields m ≡ Some x) same (among (suc i) x found)) in
    let starts : begins e n ≡ f.name.start = ap (λ o. option_map_or (λ g. g.name.start) o e.end) there in
    let placed = fields_placed d k e read here n f there in
    by_case d.text e.end (removals name e (suc n) fs) (has_name name f) (omega (arith, starts)) placed.ordered placed.start placed.end rest
  where
    by_case : {at start stop : ℕ} (text : List ℕ) (end : ℕ) (rest : List Edit) (b : Bool) → at ≡ start → start ≤ stop
        → IsCharBoundary text start → IsCharBoundary text stop → AreEditsWithin text stop end rest
        → AreEditsWithin text at end (cond b (record { start = start; end = stop; bytes = [] } ∷ []) [] ++ rest)
    by_case text end rest true same ordered first last others = (omega arith, ordered, first, last, others)
    by_case {at} {start} {stop} text end rest false same ordered first last others =
        within_earlier text at stop end rest (omega arith) others

pub removals_within : (d : Document) (k : ℕ) (e : EntryReading) (name : List ℕ) → IsDocument d
    → slice_get d.says.entries k ≡ Some e → AreEditsWithin d.text e.key.end e.end (removals name e 0 e.fields)
removals_within d k e name read here =
    within_earlier d.text e.key.end (begins e 0) e.end (removals name e 0 e.fields) (begins_past d k e 0 read here)
    (order_from d k e name 0 e.fields read here (begins_inside d k e 0 read here)
    (λ i f found. let same : i ≡ 0 + i = omega arith in subst (λ n. slice_get e.fields n ≡ Some f) same found))

removals-append : (name : List ℕ) (e : EntryReading) (index : ℕ) (xs ys : List FieldReading)
    → removals name e index (xs ++ ys) ≡ removals name e index xs ++ removals name e (index + length xs) ys
removals-append name e index [] ys = let same : index ≡ index + 0 = omega arith in ap (λ i. removals name e i ys) same
removals-append name e index (x ∷ xs) ys =
    let same : suc index + length xs ≡ index + suc (length xs) = omega arith in
    let first : List Edit = cond (has_name name x) (field_edit e index x ∷ []) [] in
    ap (λ l. first ++ l) (removals-append name e (suc index) xs ys ∙ ap (λ i. removals name e (suc index) xs ++ removals name e i ys) same)
    ∙ sym (append_assoc first (removals name e (suc index) xs) (removals name e (index + suc (length xs)) ys))

pub removals_more : {A : Type 0} (view : A → FieldReading) (name : List ℕ) (e : EntryReading) (xs : List A) (i : ℕ)
    (x : A) → i < length xs → x ≡ get_or xs i x
    → removals name e 0 (map view (take (i + 1) xs))
    ≡ removals name e 0 (map view (take i xs)) ++ cond (has_name name (view x)) (field_edit e i (view x) ∷ []) []
removals_more view name e xs i x within is =
    let index : 0 + length (map view (take i xs)) ≡ i = omega (arith, length-map (take i xs) view, length-take-le i xs (omega arith)) in
    ap (removals name e 0)
    (ap (map view) (take_more xs i x within ∙ ap (λ y. take i xs ++ y ∷ []) (sym is))
    ∙ map-append view (take i xs) (x ∷ []))
    ∙ removals-append name e 0 (map view (take i xs)) (view x ∷ [])
    ∙ ap (λ n. removals name e 0 (map view (take i xs)) ++ removals name e n (view x ∷ [])) index
    ∙ ap (λ l. removals name e 0 (map view (take i xs)) ++ l) (append-nil (cond (has_name name (view x)) (field_edit e i (view x) ∷ []) []))
