-- An entry from which each field with a given name is removed by an edit of its own.
use Rattle.std.proofs.Common.{◌≡◌, ℕ, zero, suc, ◌+◌, ◌<◌, ◌≤◌, Bool, true, false, cond, List, [], ◌∷◌, ◌++◌, length, map, take, refl, sym, ap, ◌∙◌, subst, arith, append_assoc, length-append, Option, Some, None}
use Rattle.std.specs.Prelude.{◌&&◌, ◌||◌, ◌==◌, not, slice_get}
use Rattle.std.specs.List.{list_any, remove}
use Rattle.std.specs.Option.{option_map_or}
use Rattle.std.proofs.lemmas.Bool.{eqb-true}
use Rattle.bib_text.proofs.ListFacts.{get_here, element_at}
use Rattle.bib_text.proofs.PlaceFacts.{test_clash}
use Rattle.bib_syntax.specs.Reading.{EntryReading, FieldReading}
use Rattle.bib_queries.specs.Bytes.{has_byte_at, has_percent}
use Rattle.edit_entries.specs.Changes.{IsTrimmed}
use Rattle.edit_entries.specs.Documents.{Document, IsDocument, field_limit, has_name}
use Rattle.edit_entries.specs.Edits.{Edit, edited, edited_all, moved_entry, moved_field, moved_place, placeless}
use Rattle.edit_entries.specs.Unset.{comma_after, comma_before, comma_end, edit_before, end_before, feed_after, feed_before, gap_end, is_closed, joining_edit, line_edit, lines_edit, own_edit, own_edits, own_end, plain_edit, sign_after, sign_before, with_edit}
use Rattle.edit_entries.proofs.CommentFacts.{joining_removed, lines_removed}
use Rattle.edit_entries.proofs.EditFacts.{moved_before}
use Rattle.edit_entries.proofs.GapEndFacts.{gap_past, gap_within}
use Rattle.edit_entries.proofs.KeptFacts.{AreEditsWithin, field_inside, front_kept, within_earlier}
use Rattle.edit_entries.proofs.LineFacts.{LineRemoved, before_name, line_removed, surroundings}
use Rattle.edit_entries.proofs.LineThereFacts.{limit_after, line_there}
use Rattle.edit_entries.proofs.MadeFacts.{of_entries}
use Rattle.edit_entries.proofs.RemovalFacts.{begins, field_cut_out, unnamed, with_fields}
use Rattle.edit_entries.proofs.UnsetFacts.{field_cut}

-- if `own_edit` returns an edit for a field, this edit removes the field
own_removed : (d : Document) (k : ℕ) (e : EntryReading) (j : ℕ) (f : FieldReading) (edit : Edit) → IsDocument d
    → slice_get d.says.entries k ≡ Some e → slice_get e.fields j ≡ Some f → IsTrimmed d.text f → own_edit d.text e j f ≡ Some edit
    → LineRemoved d k e j f (comma_before d.text e j f + 1) edit
own_removed d k e j f edit read here there trimmed is =
    by_case (has_byte_at d.text (comma_before d.text e j f) 44) (is_closed d.text e j f)
    (has_percent d.text (comma_before d.text e j f) f.name.start) (has_byte_at d.text (sign_before d.text e j f) 37)
    (has_byte_at d.text (feed_before d.text e j f) 10) (has_byte_at d.text (sign_after d.text e j f) 37)
    (sign_after d.text e j f == field_limit e j) (has_byte_at d.text (feed_after d.text e j f) 10) refl refl refl refl refl refl is
  where
    by_case : (comma closed percent sign feed next last ends : Bool) → has_byte_at d.text (comma_before d.text e j f) 44 ≡ comma
        → is_closed d.text e j f ≡ closed → has_byte_at d.text (sign_before d.text e j f) 37 ≡ sign
        → has_byte_at d.text (sign_after d.text e j f) 37 ≡ next
        → (sign_after d.text e j f == field_limit e j) ≡ last → has_byte_at d.text (feed_after d.text e j f) 10 ≡ ends
        → cond (comma && closed)
        (cond percent
        (cond (sign && feed)
        (cond next (Some (joining_edit d.text e j f)) (cond (last && ends) (Some (lines_edit d.text e j f)) None)) None)
        (Some (line_edit d.text e j f))) None
        ≡ Some edit
        → LineRemoved d k e j f (comma_before d.text e j f + 1) edit
    by_case false closed percent sign feed next last ends c p s n l m chosen = absurd (cc)
    by_case true false percent sign feed next last ends c p s n l m chosen = absurd (cc)
    by_case true true false sign feed next last ends c p s n l m chosen =
        let same : line_edit d.text e j f ≡ edit = cc in
        subst (λ x. LineRemoved d k e j f (comma_before d.text e j f + 1) x) same (line_removed d k e j f read here there trimmed c p)
    by_case true true true false feed next last ends c p s n l m chosen = absurd (cc)
    by_case true true true true false next last ends c p s n l m chosen = absurd (cc)
    by_case true true true true true true last ends c p s n l m chosen =
        let same : joining_edit d.text e j f ≡ edit = cc in
        subst (λ x. LineRemoved d k e j f (comma_before d.text e j f + 1) x) same
        (joining_removed d k e j f read here there trimmed c s p n)
    by_case true true true true true false false ends c p s n l m chosen = absurd (cc)
    by_case true true true true true false true false c p s n l m chosen = absurd (cc)
    by_case true true true true true false true true c p s n l m chosen =
        let same : lines_edit d.text e j f ≡ edit = cc in
        let limit = eqb-true (sign_after d.text e j f) (field_limit e j) l in
        subst (λ x. LineRemoved d k e j f (comma_before d.text e j f + 1) x) same
        (lines_removed d k e j f read here there trimmed c s p limit m)

-- ---- the edit of a field with a comma and without a comment before it

record Plain (text : List ℕ) (e : EntryReading) (j : ℕ) (f : FieldReading) (edit : Edit) : Type 0 where
  comma : has_byte_at text (comma_before text e j f) 44 ≡ true
  closed : has_byte_at text (comma_after text e j f) 44 ≡ true
  is : record { start = comma_before text e j f + 1; end = comma_after text e j f + 1; bytes = [] } ≡ edit

plain_parts : (text : List ℕ) (e : EntryReading) (j : ℕ) (f : FieldReading) (edit : Edit) → plain_edit text e j f ≡ Some edit
    → Plain text e j f edit
plain_parts text e j f edit is =
    by_case (has_byte_at text (comma_before text e j f) 44) (has_byte_at text (comma_after text e j f) 44)
    (has_percent text (comma_before text e j f) f.name.start) refl refl is
  where
    plain : Edit
    plain = record { start = comma_before text e j f + 1; end = comma_after text e j f + 1; bytes = [] }

    by_case : (comma closed percent : Bool) → has_byte_at text (comma_before text e j f) 44 ≡ comma
        → has_byte_at text (comma_after text e j f) 44 ≡ closed
        → cond (comma && closed && not percent) (Some plain) None ≡ Some edit → Plain text e j f edit
    by_case true true false c p is = let same : plain ≡ edit = cc in record { comma = c; closed = p; is = same }
    by_case true true true c p is = absurd (cc)
    by_case true false percent c p is = absurd (cc)
    by_case false closed percent c p is = absurd (cc)

-- ---- lists

-- the value or key before a field ends at the same byte offset in two entries with the same key end and fields before it
ends_same : (e x : EntryReading) (n : ℕ) → x.key.end ≡ e.key.end
    → ((i : ℕ) (f : FieldReading) → i < n → slice_get e.fields i ≡ Some f → slice_get x.fields i ≡ Some f) → n ≤ length e.fields
    → end_before x n ≡ end_before e n
ends_same e x zero key fields within = key
ends_same e x (suc n) key fields within =
    let found = element_at e.fields n (omega (arith, within)) in
    ap (λ o. option_map_or (λ f. f.value.end) o x.key.end) (fields n found.0 (omega arith) found.1)
    ∙ sym (ap (λ o. option_map_or (λ f. f.value.end) o e.key.end) found.1)

no_edits : (text name : List ℕ) (e : EntryReading) (n : ℕ) (fs : List FieldReading) → list_any (has_name name) fs ≡ false
    → own_edits text name e n fs ≡ Some []
no_edits text name e n [] none = refl
no_edits text name e n (f ∷ fs) none =
    by_case (has_name name f) (list_any (has_name name) fs) refl none (no_edits text name e (suc n) fs)
  where
    by_case : (a b : Bool) → has_name name f ≡ a → (a || b) ≡ false → (b ≡ false → own_edits text name e (suc n) fs ≡ Some [])
        → cond a (with_edit (edit_before (list_any (has_name name) fs) text e n f) (own_edits text name e (suc n) fs))
        (own_edits text name e (suc n) fs)
        ≡ Some []
    by_case true b named none others = absurd (cc)
    by_case false b named none others = others none

none_unnamed : (name : List ℕ) (fs : List FieldReading) → list_any (has_name name) fs ≡ false → unnamed name fs ≡ fs
none_unnamed name [] none = refl
none_unnamed name (f ∷ fs) none = by_case (has_name name f) (list_any (has_name name) fs) refl none (none_unnamed name fs)
  where
    by_case : (a b : Bool) → has_name name f ≡ a → (a || b) ≡ false → (b ≡ false → unnamed name fs ≡ fs)
        → unnamed name (f ∷ fs) ≡ f ∷ fs
    by_case true b named none others = absurd (cc)
    by_case false b named none others =
        ap (λ t. cond (not t) (f ∷ unnamed name fs) (unnamed name fs)) named ∙ ap (λ l. f ∷ l) (others none)

-- ---- the fields from an index on

-- the byte offset at which the comma before the field with an index, or before the closing brace, is expected
abbrev pub comma_at : List ℕ → EntryReading → ℕ → ℕ
comma_at text e n = gap_end text (end_before e n) (begins e n)

-- the document after the edits of the fields from an index on
pub record OwnRemoved (d : Document) (before others : List EntryReading) (e : EntryReading) (name : List ℕ)
    (fb fs : List FieldReading) (edits : List Edit) : Type 0 where
  pub after : Document
  pub read : IsDocument after
  pub text : after.text ≡ edited_all edits d.text
  pub entry : EntryReading
  pub here : slice_get after.says.entries (length before) ≡ Some entry
  pub key : entry.key.end ≡ e.key.end
  pub fields : (i : ℕ) (f : FieldReading) → i < length fb → slice_get e.fields i ≡ Some f → slice_get entry.fields i ≡ Some f
  pub kept : (i : ℕ) (x : EntryReading) → i < length before → slice_get d.says.entries i ≡ Some x → slice_get after.says.entries i ≡ Some x
  pub alike : placeless after.says ≡ placeless (of_entries d.says (before ++ with_fields e (fb ++ unnamed name fs) ∷ others))
  pub some : list_any (has_name name) fs ≡ true → AreEditsWithin d.text (comma_at d.text e (length fb) + 1) e.end edits
  pub none : list_any (has_name name) fs ≡ false → edits ≡ []

module _ (d : Document) (before others : List EntryReading) (e : EntryReading) (name : List ℕ) (read : IsDocument d)
    (whole : d.says.entries ≡ before ++ e ∷ others) (trimmed : (j : ℕ) (f : FieldReading) → slice_get e.fields j ≡ Some f
    → IsTrimmed d.text f) where
  abbrev k : ℕ
  k = length before

  is_here : slice_get d.says.entries k ≡ Some e
  is_here = ap (λ es. slice_get es k) whole ∙ get_here before e others

  -- if no field from an index on has the name, nothing is edited
  abbrev untouched : (fb fs : List FieldReading) → e.fields ≡ fb ++ fs → list_any (has_name name) fs ≡ false
      → OwnRemoved d before others e name fb fs []
  untouched fb fs cut none = record {
    after = d;
    read = read;
    text = refl;
    entry = e;
    here = is_here;
    key = refl;
    fields = λ i f less found. found;
    kept = λ i x less found. found;
    alike =
        ap (λ es. placeless (of_entries d.says es)) whole
        ∙ ap (λ l. placeless (of_entries d.says (before ++ with_fields e l ∷ others)))
        (cut ∙ ap (λ l. fb ++ l) (sym (none_unnamed name fs none)));
    some = λ is. absurd (test_clash (list_any (has_name name) fs) is none);
    none = λ is. refl;
  }

  -- a field with the name is removed after later ones, if its edit removes it in the old and in the edited document. Its edit ends at or
  -- before those of the later ones
  one_more : (fb : List FieldReading) (f : FieldReading) (fs : List FieldReading) (edits : List Edit) (edit : Edit)
      → e.fields ≡ fb ++ f ∷ fs → (rest : OwnRemoved d before others e name (fb ++ f ∷ []) fs edits) → has_name name f ≡ true
      → LineRemoved d k e (length fb) f (comma_at d.text e (length fb) + 1) edit
      → LineRemoved rest.after k rest.entry (length fb) f (comma_at d.text e (length fb) + 1) edit
      → AreEditsWithin d.text edit.end e.end edits
      → OwnRemoved d before others e name fb (f ∷ fs) (edit ∷ edits)
  one_more fb f fs edits edit cut rest named own new later =
      let n : ℕ = length fb in
      let x = rest.entry in
      let size : length (fb ++ f ∷ []) ≡ suc n = omega (arith, length-append fb (f ∷ [])) in
      let there : slice_get e.fields n ≡ Some f = ap (λ xs. slice_get xs n) cut ∙ get_here fb f fs in
      let there' : slice_get x.fields n ≡ Some f = rest.fields n f (omega (arith, size)) there in
      let move = moved_place edit in
      let gone =
      field_cut_out d rest.after before others e x name fb f fs edit rest.read rest.here there'
      (λ m small. moved_before edit m (omega (arith, small, new.over))) named rest.fields rest.kept rest.alike in
      record {
        after = field_cut rest.after k x n edit;
        read = new.read;
        text = ap (edited edit) rest.text;
        entry = with_fields (moved_entry move x) (remove (map (moved_field move) x.fields) n);
        here = gone.here;
        key = moved_before edit x.key.end (omega (arith, new.past, new.some)) ∙ rest.key;
        fields = gone.fields;
        kept = gone.kept;
        alike = gone.alike;
        some = λ is. (own.after_comma, omega (arith, own.some), own.start_cut, own.end_cut, later);
        none = λ is. absurd (clash (has_name name f) (list_any (has_name name) fs) named is);
      }
    where
      clash : (a b : Bool) → a ≡ true → (a || b) ≡ false → ⊥
      clash true b named none = cc
      clash false b named none = cc

  -- the comma before a field with an index is at `comma_before`
  before_is : (n : ℕ) (f : FieldReading) → slice_get e.fields n ≡ Some f → comma_at d.text e n ≡ comma_before d.text e n f
  before_is n f there = ap (λ o. gap_end d.text (end_before e n) (option_map_or (λ g. g.name.start) o e.end)) there

  after_is : (n : ℕ) (f : FieldReading) → slice_get e.fields n ≡ Some f → comma_at d.text e (suc n) ≡ comma_after d.text e n f
  after_is n f there = ap (λ o. gap_end d.text (option_map_or (λ g. g.value.end) o e.key.end) (begins e (suc n))) there

  -- a field without the name is kept
  passed : (fb : List FieldReading) (f : FieldReading) (fs : List FieldReading) (edits : List Edit) → e.fields ≡ fb ++ f ∷ fs
      → OwnRemoved d before others e name (fb ++ f ∷ []) fs edits → has_name name f ≡ false
      → OwnRemoved d before others e name fb (f ∷ fs) edits
  passed fb f fs edits cut rest is =
      let n : ℕ = length fb in
      let size : length (fb ++ f ∷ []) ≡ suc n = omega (arith, length-append fb (f ∷ [])) in
      let there : slice_get e.fields n ≡ Some f = ap (λ xs. slice_get xs n) cut ∙ get_here fb f fs in
      let names = before_name d k e n f read is_here there in
      let at_field = field_inside d k e n f read is_here there in
      let first : comma_at d.text e n ≤ f.name.start =
      omega (
        arith,
        before_is n f there,
        gap_within d.text (end_before e n) f.name.start f.name.start (omega (arith, names.0)) (omega arith),
      ) in
      let next : f.value.end ≤ comma_at d.text e (suc n) =
      omega (arith, after_is n f there, gap_past d.text f.value.end (field_limit e n)) in
      let left : f ∷ unnamed name fs ≡ unnamed name (f ∷ fs) =
      ap (λ b. cond (not b) (f ∷ unnamed name fs) (unnamed name fs)) (sym is) in
      let any : list_any (has_name name) (f ∷ fs) ≡ list_any (has_name name) fs = ap (λ b. b || list_any (has_name name) fs) is in
      record {
        after = rest.after;
        read = rest.read;
        text = rest.text;
        entry = rest.entry;
        here = rest.here;
        key = rest.key;
        fields = λ i g less found. rest.fields i g (omega (arith, size, less)) found;
        kept = rest.kept;
        alike =
            rest.alike
            ∙ ap (λ l. placeless (of_entries d.says (before ++ with_fields e l ∷ others)))
            (append_assoc fb (f ∷ []) (unnamed name fs) ∙ ap (λ l. fb ++ l) left);
        some = λ found.
            within_earlier d.text (comma_at d.text e n + 1) (comma_at d.text e (suc n) + 1) e.end edits
            (omega (arith, first, next, names.1, at_field.value))
            (subst (λ m. AreEditsWithin d.text (comma_at d.text e m + 1) e.end edits) size (rest.some (sym any ∙ found)));
        none = λ found. rest.none (sym any ∙ found);
      }

  -- the last field with the name is removed by `own_edit`, if this returns an edit
  last_one : (fb : List FieldReading) (f : FieldReading) (fs : List FieldReading) (edit : Edit) → e.fields ≡ fb ++ f ∷ fs
      → has_name name f ≡ true → list_any (has_name name) fs ≡ false → own_edit d.text e (length fb) f ≡ Some edit
      → OwnRemoved d before others e name fb (f ∷ fs) (edit ∷ [])
  last_one fb f fs edit cut named none is =
      let n : ℕ = length fb in
      let there : slice_get e.fields n ≡ Some f = ap (λ xs. slice_get xs n) cut ∙ get_here fb f fs in
      let own =
      subst (λ m. LineRemoved d k e n f (m + 1) edit) (sym (before_is n f there))
      (own_removed d k e n f edit read is_here there (trimmed n f there) is) in
      one_more fb f fs [] edit cut (untouched (fb ++ f ∷ []) fs (cut ∙ sym (append_assoc fb (f ∷ []) fs)) none) named own own own.within

  -- a field with the name before another one with it is removed by `plain_edit`, if this returns an edit
  earlier_one : (fb : List FieldReading) (f : FieldReading) (fs : List FieldReading) (edit : Edit) (edits : List Edit)
      → e.fields ≡ fb ++ f ∷ fs → OwnRemoved d before others e name (fb ++ f ∷ []) fs edits → has_name name f ≡ true
      → list_any (has_name name) fs ≡ true → plain_edit d.text e (length fb) f ≡ Some edit
      → OwnRemoved d before others e name fb (f ∷ fs) (edit ∷ edits)
  earlier_one fb f fs edit edits cut rest named more is =
      let n : ℕ = length fb in
      let g : ℕ = comma_after d.text e n f in
      let x = rest.entry in
      let size : length (fb ++ f ∷ []) ≡ suc n = omega (arith, length-append fb (f ∷ [])) in
      let there : slice_get e.fields n ≡ Some f = ap (λ xs. slice_get xs n) cut ∙ get_here fb f fs in
      let there' : slice_get x.fields n ≡ Some f = rest.fields n f (omega (arith, size)) there in
      let parts = plain_parts d.text e n f edit is in
      let closed : is_closed d.text e n f ≡ true = ap (λ b. b || has_byte_at d.text g 125) parts.closed in
      let a = surroundings d k e n f read is_here there (trimmed n f there) parts.comma closed in
      let line = line_removed d k e n f read is_here there (trimmed n f there) parts.comma closed in
      let build : ℕ → Edit = λ (m : ℕ). record { start = comma_before d.text e n f + 1; end = m; bytes = [] } in
      let limits = limit_after d k e n f _ _ a in
      let close_is : comma_end d.text e n f ≡ g + 1 = ap (λ b. cond b (g + 1) (own_end d.text e n f)) parts.closed in
      let end_is : line_edit d.text e n f ≡ edit = ap build close_is ∙ parts.is in
      let within : AreEditsWithin d.text (g + 1) e.end edits =
      subst (λ m. AreEditsWithin d.text (m + 1) e.end edits) (ap (comma_at d.text e) size ∙ after_is n f there) (rest.some more) in
      let front : take (g + 1) rest.after.text ≡ take (g + 1) d.text =
      ap (take (g + 1)) rest.text ∙ front_kept d.text (g + 1) e.end edits within in
      let new =
      line_there d rest.after k e x n f rest.read rest.here there'
      (ends_same e x n rest.key (λ i y less. rest.fields i y (omega (arith, size, less)))
      (omega (arith, ap length cut, length-append fb (f ∷ fs)))) front parts.comma parts.closed
      (omega (arith, limits.0, close_is)) limits.1 in
      one_more fb f fs edits edit cut rest named
      (subst (λ m. LineRemoved d k e n f (m + 1) edit) (sym (before_is n f there)) (subst (LineRemoved d k e n f _) end_is line))
      (subst (λ m. LineRemoved rest.after k x n f (m + 1) edit) (sym (before_is n f there))
      (subst (LineRemoved rest.after k x n f _) parts.is new))
      (subst (λ m. AreEditsWithin d.text m e.end edits) (ap (λ y. y.end) parts.is) within)

  pub own_edits_removed : (fb fs : List FieldReading) (edits : List Edit) → e.fields ≡ fb ++ fs
      → own_edits d.text name e (length fb) fs ≡ Some edits → OwnRemoved d before others e name fb fs edits
  own_edits_removed fb [] edits cut is =
      let none : [] ≡ edits = cc in subst (OwnRemoved d before others e name fb []) none (untouched fb [] cut refl)
  own_edits_removed fb (f ∷ fs) edits cut is =
      by_case (has_name name f) (list_any (has_name name) fs) refl refl is
      (λ later found. own_edits_removed (fb ++ f ∷ []) fs later (cut ∙ sym (append_assoc fb (f ∷ []) fs))
      (ap (λ m. own_edits d.text name e m fs) size ∙ found))
    where
      size : length (fb ++ f ∷ []) ≡ suc (length fb)
      size = omega (arith, length-append fb (f ∷ []))

      by_edit : (o : Option Edit) (p : Option (List Edit)) → with_edit o p ≡ Some edits
          → (edit : Edit) × (later : List Edit) × (o ≡ Some edit) × (p ≡ Some later) × (edit ∷ later ≡ edits)
      by_edit None p is = absurd (cc)
      by_edit (Some edit) None is = absurd (cc)
      by_edit (Some edit) (Some later) is = let same : edit ∷ later ≡ edits = cc in (edit, later, refl, refl, same)

      by_case : (named more : Bool) → has_name name f ≡ named → list_any (has_name name) fs ≡ more
          → cond named (with_edit (edit_before more d.text e (length fb) f) (own_edits d.text name e (suc (length fb)) fs))
          (own_edits d.text name e (suc (length fb)) fs)
          ≡ Some edits
          → ((later : List Edit) → own_edits d.text name e (suc (length fb)) fs ≡ Some later
          → OwnRemoved d before others e name (fb ++ f ∷ []) fs later)
          → OwnRemoved d before others e name fb (f ∷ fs) edits
      by_case false more n m is rest = passed fb f fs edits cut (rest edits is) n
      by_case true true n m is rest =
          let (edit, later, first, next, same) = by_edit _ _ is in
          subst (OwnRemoved d before others e name fb (f ∷ fs)) same (earlier_one fb f fs edit later cut (rest later next) n m first)
      by_case true false n m is rest =
          let (edit, later, first, next, same) = by_edit _ _ is in
          let none : [] ≡ later = some_same (sym (no_edits d.text name e (suc (length fb)) fs m) ∙ next) in
          subst (OwnRemoved d before others e name fb (f ∷ fs)) (ap (λ l. edit ∷ l) none ∙ same) (last_one fb f fs edit cut n m first)
        where
          some_same : {l m : List Edit} → Some l ≡ Some m → l ≡ m
          some_same is = cc
