-- The outcome of setting a field.
use Rattle.std.proofs.Common.{◌≡◌, ℕ, zero, suc, ◌<◌, ◌≤◌, Bool, true, false, cond, List, [], ◌∷◌, ◌++◌, length, map, refl, sym, ap, ◌∙◌, subst, arith, Some, Result, Ok, Err}
use Rattle.std.specs.Prelude.{IfErr, IfOk, slice_get, slice_set, ◌||◌}
use Rattle.std.specs.Char.{is_whitespace}
use Rattle.std.specs.List.{AllByRecursion, list_any}
use Rattle.std.specs.Str.{IsCharBoundary, IsUtf8}
use Rattle.std.proofs.lemmas.Bool.{or_right, or_left}
use Rattle.bib_text.specs.Places.{CharAt, Longest, place}
use Rattle.bib_text.proofs.PlaceFacts.{ahead_run, ahead_then, same_place}
use Rattle.bib_text.proofs.BoundaryFacts.{char_boundary}
use Rattle.bib_syntax.specs.Grammar.{IsRawReading}
use Rattle.bib_syntax.specs.Reading.{EntryReading, FieldReading}
use Rattle.bib_syntax.proofs.FileFacts.{ahead_head}
use Rattle.edit_entries.specs.Changes.{FieldChange, NewField, edits_of_entry, edits_of_field, edits_of_fields, field_before, field_reading, name_edit}
use Rattle.edit_entries.specs.Documents.{Document, HasEntry, IsEdited, IsDocument, entry_edited, first_position, has_name, is_keyed}
use Rattle.edit_entries.specs.Edits.{Edit, edited, edited_all, moved_entry, moved_field, moved_place, placeless}
use Rattle.edit_entries.specs.Placed.{HasComma, IsNamePlaced, IsPlaced, IsSignPlaced}
use Rattle.edit_entries.specs.SetTexts.{CanBeSetIn, CantBeSetIn, IsSetText, SetTextIsRefused}
use Rattle.edit_entries.specs.Setting.{CanBeNewName, CantBeSet, FieldSet, IsWritableAt, IsSet, SetIsRefused, SetValue, field_put, has_other_value, field_with_value, new_value, only_field_text, set_change, values_set, white_before}
use Rattle.edit_entries.specs.declared.errors.EditError.{EditError}
use Rattle.edit_entries.specs.declared.errors.EditError.TheVariants.{UnknownKey, KeyIsThere, NotAKey, NotAName, NotInBraces, NotBare, DefinitionIsThere, NoFieldLeft, OutOfMemory}
use Rattle.edit_entries.proofs.AddedFacts.{only_field_read}
use Rattle.edit_entries.proofs.AllFacts.{all_found}
use Rattle.edit_entries.proofs.ChangesFacts.{CanChange, CanEntryChange, CanFieldsChange}
use Rattle.edit_entries.proofs.EntryChangeFacts.{can_be_kept, entry_changed_read, entry_edits_in_order, no_edits}
use Rattle.edit_entries.specs.Layouts.{new_sign}
use Rattle.edit_entries.proofs.FitFacts.{fit_read}
use Rattle.edit_entries.proofs.LayoutFacts.{new_sign_is}
use Rattle.edit_entries.proofs.MadeFacts.{entry_alike, of_entries, says_alike}
use Rattle.edit_entries.proofs.UnsetEntryFacts.{around, set_here}
use Rattle.edit_entries.proofs.NewFieldFacts.{CanBePut}
use Rattle.edit_entries.proofs.NewValueFacts.{CanBeRead}
use Rattle.edit_entries.proofs.PartFacts.{AreEntriesIn, AreFieldsIn, file_in}
use Rattle.edit_entries.proofs.SplitFacts.{ahead_file_before, split_file}
use Rattle.edit_entries.proofs.ValueFacts.{field_placed, run_stands}
use Rattle.edit_entries.proofs.WhiteBeforeFacts.{before_white}

-- ---- the text of an entry

-- a comma is after the key of each entry
pub comma_known : (d : Document) (k : ℕ) (e : EntryReading) → IsDocument d → slice_get d.says.entries k ≡ Some e → HasComma d.text e
comma_known d k e read here =
    let s = split_file k e read here in
    let b = s.block in
    let to_key = ahead_then (ahead_file_before s.first) (ahead_then (ahead_head b.head) (ahead_run b.key.run)) in
    let to_before = ahead_then to_key (ahead_run b.white.run) in
    let end : e.key.end ≡ b.key_end.at = ap (λ p. p.end) b.key_is in
    let key_end : b.key_end ≡ place d.text e.key.end = same_place {u = b.key_end} {v = place d.text e.key.end} to_key.text (sym end) in
    let stands = run_stands b.white.run b.comma in
    record {
      key_end = subst (λ p. IsCharBoundary p.text p.at) key_end (char_boundary stands.here);
      at = b.after_comma.at;
      is = record {
        before = b.before_comma;
        white = subst (λ p. Longest is_whitespace p b.before_comma) key_end b.white;
        comma =
            subst (λ p. CharAt b.before_comma 44 p)
            (same_place {u = b.after_comma} {v = place d.text b.after_comma.at} (b.comma.same ∙ to_before.text) refl)
            b.comma;
      };
    }

pub names_in : (text : List ℕ) (at end : ℕ) (fs : List FieldReading) → AreFieldsIn text at fs end → AllByRecursion (IsNamePlaced text) fs
names_in text at end [] order = tt
names_in text at end (f ∷ fs) order = (
  record { ordered = omega (arith, order.1.name.some); start = order.1.name.start; end = order.1.name.end },
  names_in text f.value.end end fs order.2,
)

pub signs_in : (text : List ℕ) (at end : ℕ) (fs : List FieldReading) → AreFieldsIn text at fs end → AllByRecursion (IsPlaced text) fs
    → AllByRecursion (IsSignPlaced text) fs
signs_in text at end [] order all = tt
signs_in text at end (f ∷ fs) order all = (
  record { ordered = order.1.ordered; start = order.1.name.end; end = all.0.start },
  signs_in text f.value.end end fs order.2 all.1,
)

signs_placed : (text : List ℕ) (at k : ℕ) (es : List EntryReading) (e : EntryReading) → AreEntriesIn text at es
    → slice_get es k ≡ Some e → AllByRecursion (IsPlaced text) e.fields → AllByRecursion (IsSignPlaced text) e.fields
signs_placed text at k [] e order here all = absurd (cc)
signs_placed text at zero (x ∷ xs) e order here all =
    let same : x ≡ e = cc in
    subst (λ y. AllByRecursion (IsSignPlaced text) y.fields) same
    (signs_in text x.kind.end order.0 x.fields order.3 (subst (λ y. AllByRecursion (IsPlaced text) y.fields) (sym same) all))
signs_placed text at (suc k) (x ∷ xs) e order here all = signs_placed text order.0 k xs e order.4 here all

names_placed : (text : List ℕ) (at k : ℕ) (es : List EntryReading) (e : EntryReading) → AreEntriesIn text at es
    → slice_get es k ≡ Some e → AllByRecursion (IsNamePlaced text) e.fields
names_placed text at k [] e order here = absurd (cc)
names_placed text at zero (x ∷ xs) e order here =
    let same : x ≡ e = cc in
    subst (λ y. AllByRecursion (IsNamePlaced text) y.fields) same (names_in text x.kind.end order.0 x.fields order.3)
names_placed text at (suc k) (x ∷ xs) e order here = names_placed text order.0 k xs e order.4 here

-- each entry of a UTF-8 document meets the condition under which one of its fields can be set
pub set_asked : (d : Document) (k : ℕ) (e : EntryReading) (name : List ℕ) (value : SetValue) → IsDocument d → IsUtf8 d.text
    → slice_get d.says.entries k ≡ Some e → CanBeSetIn d.text e name value
set_asked d k e name value read utf8 here = record {
  comma = comma_known d k e read here;
  values = all_found (IsPlaced d.text) e.fields (λ j f there. field_placed d k e j f read here there);
  names = names_placed d.text 0 k d.says.entries e (file_in d.text refl read) here;
  signs =
      signs_placed d.text 0 k d.says.entries e (file_in d.text refl read) here
      (all_found (IsPlaced d.text) e.fields (λ j f there. field_placed d k e j f read here there));
  ordered = entry_edits_in_order d k e (values_set name value e) read utf8 here;
}

-- ---- the changes can be made

change_can : (value : SetValue) (following : List FieldReading) (b : Bool) → (b ≡ true → CanBeRead (new_value value))
    → CanChange following (cond b (FieldChange.valued (new_value value)) FieldChange.kept)
change_can value following true can = can refl
change_can value following false can = tt

values_can : (name : List ℕ) (value : SetValue) (fs : List FieldReading) → (list_any (has_other_value name value) fs ≡ true
    → CanBeRead (new_value value))
    → CanFieldsChange fs (map (set_change name value) fs)
values_can name value [] can = tt
values_can name value (f ∷ fs) can =
    let here : Bool = has_other_value name value f in
    let later : Bool = list_any (has_other_value name value) fs in (
      change_can value fs here (λ is. can (or_left here later is)),
      values_can name value fs (λ is. can (or_right here later is)),
    )

pub set_can : (name : List ℕ) (value : SetValue) (e : EntryReading)
    → (list_any (has_other_value name value) e.fields ≡ true → CanBeRead (new_value value))
    → CanEntryChange e (values_set name value e)
set_can name value e can = record { kind = λ n is. absurd (cc); fields = values_can name value e.fields can }

pub put_can : (text name : List ℕ) (value : SetValue) (e : EntryReading) (first : FieldReading) (others : List FieldReading)
    → e.fields ≡ first ∷ others → CanBeNewName name → CanBeRead (new_value value) → first.name.start ≤ length text
    → CanEntryChange e (field_put text name value first others)
put_can text name value e first others are can_name can_value within = record {
  kind = λ n is. absurd (cc);
  fields =
      subst (λ fs. CanFieldsChange fs (field_put text name value first others).fields) (sym are) (
        (
          record { name = can_name.name; value = can_value },
          new_sign_is text name first
              (first ∷ others),
          before_white text first.name.start within,
        ),
        can_be_kept others,
      );
}

-- fields of which none has the name and another value get no edits
pub no_value_edits : (text name : List ℕ) (value : SetValue) (fs : List FieldReading) → list_any (has_other_value name value) fs ≡ false
    → edits_of_fields text fs (map (set_change name value) fs) ≡ []
no_value_edits text name value [] none = refl
no_value_edits text name value (f ∷ fs) none = by_case (has_other_value name value f) refl none (no_value_edits text name value fs)
  where
    by_case : (b : Bool) → has_other_value name value f ≡ b → (b || list_any (has_other_value name value) fs) ≡ false
        →
        (list_any (has_other_value name value) fs ≡ false
        → edits_of_fields text fs (map (set_change name value) fs) ≡ [])
        → edits_of_fields text (f ∷ fs) (map (set_change name value) (f ∷ fs)) ≡ []
    by_case true is free rest = absurd (cc)
    by_case false is free rest =
        ap
        (λ b.
        edits_of_field text f fs (cond b (FieldChange.valued (new_value value)) FieldChange.kept)
        ++ edits_of_fields text fs (map (set_change name value) fs)) is
        ∙ rest free

pub no_element : {A : Type 0} (xs : List A) → length xs < 1 → xs ≡ []
no_element [] short = refl
no_element (x ∷ xs) short = absurd (omega (arith, short))

-- the text with a new field before the first one is the text after the field is set. This holds if no field has the name, and name
-- and value can be written
pub put_made : (definitions : List FieldReading) (text : List ℕ) (e : EntryReading) (name : List ℕ) (value : SetValue)
    (first : FieldReading)
    (others : List FieldReading) (new : List ℕ) → list_any (has_name name) e.fields ≡ false → e.fields ≡ first ∷ others
    → new ≡ edited (name_edit first (field_before (field_with_value name value) (new_sign text name first (first ∷ others))
    (white_before text first.name.start))) text
    → CanBeNewName name → IsWritableAt definitions e.start value → IsSetText definitions text e name value new
put_made definitions text e name value first others new none are is can_name can_value =
    let lead : List ℕ = field_before (field_with_value name value) (new_sign text name first (first ∷ others))
    (white_before text first.name.start) in
    let edits : edits_of_entry text e (field_put text name value first others) ≡ name_edit first lead ∷ [] =
    ap (λ fs. edits_of_fields text fs (field_put text name value first others).fields) are
    ∙ ap (λ es. name_edit first lead ∷ es) (no_edits text others) in
    IsSetText.added none are can_name can_value (is ∙ ap (λ es. edited_all es text) (sym edits))

-- ---- the outcome

pub first_within : (text : List ℕ) (fs : List FieldReading) (first : FieldReading) (others : List FieldReading)
    → AllByRecursion (IsNamePlaced text) fs → fs ≡ first ∷ others → first.name.start ≤ length text
first_within text [] first others all are = absurd (cc)
first_within text (f ∷ fs) first others all are =
    let same : f ≡ first = cc in
    subst (λ g. g.name.start ≤ length text) same all.0.start.0

pub text_set : (d : Document) (key name : List ℕ) (value : SetValue) (new : List ℕ) (k : ℕ) (e : EntryReading) → IsDocument d
    → IsUtf8 d.text → HasEntry d key k e → IsSetText d.says.abbreviations d.text e name value new → IsEdited (FieldSet d key name value) new
text_set d key name value new k e read utf8 entry (IsSetText.changed there can is) =
    let r = entry_changed_read d k e (values_set name value e) read utf8 entry.here (set_can name value e
    (λ there. fit_read d.says.abbreviations e.start value (can there))) in
    record {
      document = record { text = new; says = r.tells };
      outcome = FieldSet.changed entry there can (record { text = is; alike = r.alike });
      is = refl;
      read = subst (λ t. IsRawReading t r.tells) (sym is) r.read;
    }
text_set d key name value new k e read utf8 entry (IsSetText.added {first = first} {others = others} none are can_name can_value is) =
    let names = names_placed d.text 0 k d.says.entries e (file_in d.text refl read) entry.here in
    let can =
    put_can d.text name value e first others are can_name (fit_read d.says.abbreviations e.start value can_value)
    (first_within d.text e.fields first others names are) in
    let r = entry_changed_read d k e (field_put d.text name value first others) read utf8 entry.here can in
    record {
      document = record { text = new; says = r.tells };
      outcome = FieldSet.added entry none are can_name can_value (record { text = is; alike = r.alike });
      is = refl;
      read = subst (λ t. IsRawReading t r.tells) (sym is) r.read;
    }
text_set d key name value new k e read utf8 entry (IsSetText.only {at = at} none comma can_name can_value is) =
    let n : NewField = field_with_value name value in
    let edit : Edit = record { start = at; end = at; bytes = only_field_text name value } in
    let move = moved_place edit in
    let put : CanBePut n = record { name = can_name.name; value = fit_read d.says.abbreviations e.start value can_value } in
    let x = only_field_read d k e at n read entry.here comma put in
    let a = around d.says.entries k e entry.here in
    let build : EntryReading → List FieldReading → EntryReading = λ (y : EntryReading) (fs : List FieldReading). record y { fields = fs } in
    let view = moved_field (λ m. 0) in
    let changed : EntryReading = build e (field_reading n ∷ []) in
    let added : EntryReading = build (moved_entry move e) (x.reading ∷ map (moved_field move) e.fields) in
    let whole : placeless d.says ≡ placeless (of_entries d.says (a.before ++ e ∷ a.following)) =
    ap (λ es. placeless (of_entries d.says es)) a.whole in
    let here : slice_get d.says.entries (length a.before) ≡ Some e = subst (λ m. slice_get d.says.entries m ≡ Some e)
    (sym a.index) entry.here in
    let same : moved_entry (λ m. 0) added ≡ moved_entry (λ m. 0) changed =
    ap (λ y. build y (view x.reading ∷ map view (map (moved_field move) e.fields)))
    (entry_alike d d edit a.before a.following e whole e here)
    ∙ ap (λ fs. build (moved_entry (λ m. 0) e) (view x.reading ∷ map view (map (moved_field move) fs))) none
    ∙ ap (λ r. build (moved_entry (λ m. 0) e) (r ∷ [])) x.alike in
    let set : slice_set d.says.entries k changed ≡ a.before ++ changed ∷ a.following =
    ap (λ es. slice_set es k changed) a.whole ∙ ap (λ m. slice_set (a.before ++ e ∷ a.following) m changed) (sym a.index)
    ∙ set_here a.before a.following e changed in
    record {
      document = entry_edited d edit k added;
      outcome = FieldSet.only entry none can_name can_value (record {
        at = at;
        comma = comma;
        text = refl;
        alike =
            ap (λ m. placeless (entry_edited d edit m added).says) (sym a.index)
            ∙ says_alike d d edit a.before a.following e whole added changed same
            ∙ ap (λ es. placeless (of_entries d.says es)) (sym set);
      });
      is = is;
      read = x.read;
    }

-- the entry at the index that a lookup by a key returns is the first one with this key
pub has_entry : (d : Document) (listed : List EntryReading) (key : List ℕ) (k : ℕ) (e : EntryReading)
    → listed ≡ d.says.entries → first_position (is_keyed key) listed ≡ Some k → slice_get listed k ≡ Some e
    → HasEntry d key k e
has_entry d listed key k e same first here = record {
  first = subst (λ es. first_position (is_keyed key) es ≡ Some k) same first;
  here = subst (λ es. slice_get es k ≡ Some e) same here;
}

-- only one entry is the first one with a key
same_entry : (d : Document) (key : List ℕ) (k n : ℕ) (e x : EntryReading) → HasEntry d key k e → HasEntry d key n x → e ≡ x
same_entry d key k n e x one other =
    let index : k ≡ n = cc in
    let here : slice_get d.says.entries n ≡ Some e = subst (λ i. slice_get d.says.entries i ≡ Some e) index one.here in
    cc

cant_be_set : (d : Document) (key name : List ℕ) (value : SetValue) (k : ℕ) (e : EntryReading) (error : EditError) → HasEntry d key k e
    → CantBeSetIn d.says.abbreviations e name value error → CantBeSet d key name value error
cant_be_set d key name value k e error entry why = record {
  index = k;
  entry = e;
  has = entry;
  because = why.because;
  unfit = why.unfit;
  new = λ set. other set;
}
  where
    other : IsSet d key name value → ⊥
    other set =
        let same : e ≡ set.entry = same_entry d key k set.index e set.entry entry set.has in
        let is : list_any (has_other_value name value) set.entry.fields ≡ true =
        subst (λ x. list_any (has_other_value name value) x.fields ≡ true) same
        (why.new (subst (λ x. list_any (has_name name) x.fields ≡ true) (sym same) set.named)) in
        absurd (cc)

pub set_refused : (d : Document) (key name : List ℕ) (value : SetValue) (k : ℕ) (e : EntryReading) (error : EditError) → HasEntry d key k e
    → SetTextIsRefused d.says.abbreviations e name value error → SetIsRefused d key name value error
set_refused d key name value k e UnknownKey entry why = absurd why
set_refused d key name value k e KeyIsThere entry why = why
set_refused d key name value k e NotAKey entry why = why
set_refused d key name value k e NotAName entry why = why
set_refused d key name value k e NotInBraces entry why = cant_be_set d key name value k e NotInBraces entry why
set_refused d key name value k e NotBare entry why = cant_be_set d key name value k e NotBare entry why
set_refused d key name value k e DefinitionIsThere entry why = why
set_refused d key name value k e NoFieldLeft entry why = why
set_refused d key name value k e OutOfMemory entry why = tt

-- ---- the results of calls

pub all_set : {S : Type 0} (bytes : S → List ℕ) (r : Result S EditError) (d : Document) (key name : List ℕ) (value : SetValue) (k : ℕ)
    (e : EntryReading) → IsDocument d → IsUtf8 d.text → HasEntry d key k e
    → IfOk r (λ new. IsSetText d.says.abbreviations d.text e name value (bytes new))
    → IfOk r (λ new. IsEdited (FieldSet d key name value) (bytes new))
all_set bytes (Err error) d key name value k e read utf8 entry set = _
all_set bytes (Ok new) d key name value k e read utf8 entry set = text_set d key name value (bytes new) k e read utf8 entry set

pub all_refused : {S : Type 0} (r : Result S EditError) (d : Document) (key name : List ℕ) (value : SetValue) (k : ℕ) (e : EntryReading)
    → HasEntry d key k e → IfErr r (SetTextIsRefused d.says.abbreviations e name value) → IfErr r (SetIsRefused d key name value)
all_refused (Ok new) d key name value k e entry why = _
all_refused (Err error) d key name value k e entry why = set_refused d key name value k e error entry why
