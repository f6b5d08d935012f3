-- A field of the entries with selected keys is unset, from the last entry to the first.
use Rattle.std.proofs.Common.{◌≡◌, ℕ, zero, suc, ◌+◌, ◌-◌, ◌<◌, ◌≤◌, Bool, true, false, cond, List, [], ◌∷◌, ◌++◌, length, map, take, refl, sym, ap, ◌∙◌, subst, arith, append_assoc, length-append, Option, Some, None}
use Rattle.std.specs.Prelude.{◌==◌, ◌&&◌, ◌||◌, codes, not, slice_get, slice_set}
use Rattle.std.specs.Char.{is_ascii_whitespace, is_whitespace}
use Rattle.std.specs.List.{flat_map, list_any}
use Rattle.std.specs.Option.{option_map_or}
use Rattle.std.specs.Str.{IsUtf8, trim_end}
use Rattle.bib_text.specs.Places.{Run, place}
use Rattle.bib_text.proofs.ListFacts.{get_here}
use Rattle.bib_text.proofs.PlaceFacts.{ahead_run}
use Rattle.bib_syntax.specs.Reading.{EntryReading, FieldReading, FileReading}
use Rattle.bib_queries.specs.Bytes.{has_byte_at, has_percent}
use Rattle.edit_entries.specs.Changes.{IsTrimmed, value_end}
use Rattle.edit_entries.specs.Cuts.{AreEntriesCut}
use Rattle.edit_entries.specs.Documents.{Document, IsDocument, IsEdited, field_limit, has_name}
use Rattle.edit_entries.specs.EditList.{AreEditsInOrder}
use Rattle.edit_entries.specs.Edits.{Edit, edited_all, moved_entry, placeless}
use Rattle.edit_entries.specs.Selected.{FieldsUnset, unset_if_selected, without_if_selected, would_be_empty}
use Rattle.edit_entries.specs.Unset.{after_bytes, comma_after, comma_before, comma_end, commented_edit, edit_before, end_before, feed_after, feed_before, gap_end, has_comment_beside, is_closed, is_line_space, is_no_line_feed, line_end_at, or_removals, own_edit, own_edits, own_end, plain_edit, sign_after, sign_before, unset_edits, with_edit, without_named}
use Rattle.edit_entries.proofs.AgreementFacts.{same_bytes, same_run}
use Rattle.edit_entries.proofs.CutFacts.{document_cut}
use Rattle.edit_entries.proofs.KeptFacts.{AreEditsWithin, IsFieldInside, edited_append, entry_inside, field_inside, front_kept, within_append, within_earlier, within_order}
use Rattle.edit_entries.proofs.GapEndFacts.{after_within, gap_within}
use Rattle.edit_entries.proofs.LineFacts.{before_name, comma_within}
use Rattle.edit_entries.proofs.MadeFacts.{of_entries}
use Rattle.edit_entries.proofs.PrefixFacts.{after_prefix, byte_prefix, gap_prefix, percent_prefix}
use Rattle.edit_entries.proofs.TrimmedFacts.{trimmed_known}
use Rattle.edit_entries.proofs.UnsetEntryFacts.{around, entry_unset}
use Rattle.edit_entries.proofs.ValueFacts.{field_placed}

-- ---- the edits of an entry depend on the text up to its end

-- the trimmed end of a value is at or before the end of its span
value_end_within : (text : List ℕ) (f : FieldReading) → IsTrimmed text f → value_end text f ≤ f.value.end
value_end_within text f trimmed = (ahead_run trimmed).at

module _ (x y : List ℕ) (e : EntryReading) (at : ℕ) (same : take at x ≡ take at y) (past : e.end < at) (key : e.key.end ≤ e.end)
    (inside : (j : ℕ) (f : FieldReading) → slice_get e.fields j ≡ Some f → IsFieldInside e f)
    (ends : (j : ℕ) (f : FieldReading) → slice_get e.fields j ≡ Some f → value_end y f ≤ f.value.end) where
  byte_same : (n c : ℕ) → n ≤ e.end → has_byte_at x n c ≡ has_byte_at y n c
  byte_same n c within = byte_prefix x y at same n c (omega (arith, within, past))

  percent_same : (start end : ℕ) → start ≤ e.end → end ≤ e.end → has_percent x start end ≡ has_percent y start end
  percent_same start end first last = percent_prefix x y at same start end (omega (arith, first, past)) (omega (arith, last, past))

  before_inside : (j : ℕ) → end_before e j ≤ e.end
  before_inside zero = key
  before_inside (suc j) = by_case (slice_get e.fields j) refl
    where
      by_case : (o : Option FieldReading) → slice_get e.fields j ≡ o → option_map_or (λ f. f.value.end) o e.key.end ≤ e.end
      by_case None is = key
      by_case (Some f) is = (inside j f is).end

  limit_inside : (j : ℕ) → field_limit e j ≤ e.end
  limit_inside j = by_case (slice_get e.fields (suc j)) refl
    where
      by_case : (o : Option FieldReading) → slice_get e.fields (suc j) ≡ o → option_map_or (λ f. f.name.start) o e.end ≤ e.end
      by_case None is = omega arith
      by_case (Some f) is = let at_field = inside (suc j) f is in omega (arith, at_field.name, at_field.value, at_field.end)

  after_same : (test : ℕ → Bool) (start end : ℕ) → start ≤ e.end → end ≤ e.end → after_bytes test x start end ≡ after_bytes test y start end
  after_same test start end first last = after_prefix x y at same test start end (omega (arith, first, past)) (omega (arith, last, past))

  pub value_end_same : (j : ℕ) (f : FieldReading) → slice_get e.fields j ≡ Some f → value_end x f ≡ value_end y f
  value_end_same j f there =
      let at_field = inside j f there in
      ap (λ l. f.value.start + length (trim_end l))
      (same_bytes x y at f.value.start (f.value.end - f.value.start) same (omega (arith, at_field.value, at_field.end, past)))

  gap_same : (start end : ℕ) → start ≤ e.end → end ≤ e.end → gap_end x start end ≡ gap_end y start end
  gap_same start end first last = gap_prefix x y at same start end (omega (arith, first, past)) (omega (arith, last, past))

  after_gap_same : (j : ℕ) (f : FieldReading) → slice_get e.fields j ≡ Some f → comma_after x e j f ≡ comma_after y e j f
  after_gap_same j f there = gap_same f.value.end (field_limit e j) (inside j f there).end (limit_inside j)

  comma_in : (j : ℕ) (f : FieldReading) → slice_get e.fields j ≡ Some f → comma_after y e j f ≤ e.end
  comma_in j f there = gap_within y f.value.end (field_limit e j) e.end (inside j f there).end (limit_inside j)

  comma_byte_same : (j : ℕ) (f : FieldReading) (c : ℕ) → slice_get e.fields j ≡ Some f
      → has_byte_at x (comma_after x e j f) c ≡ has_byte_at y (comma_after y e j f) c
  comma_byte_same j f c there =
      ap (λ n. has_byte_at x n c) (after_gap_same j f there) ∙ byte_same (comma_after y e j f) c (comma_in j f there)

  closed_same : (j : ℕ) (f : FieldReading) → slice_get e.fields j ≡ Some f → is_closed x e j f ≡ is_closed y e j f
  closed_same j f there =
      ap (λ b. b || has_byte_at x (comma_after x e j f) 125) (comma_byte_same j f 44 there)
      ∙ ap (λ b. has_byte_at y (comma_after y e j f) 44 || b) (comma_byte_same j f 125 there)

  line_end_same : (n : ℕ) → n ≤ e.end → line_end_at x n ≡ line_end_at y n
  line_end_same n within = ap (λ b. cond b (n - 1) n) (byte_same (n - 1) 13 (omega (arith, within)))

  beside_same : (j : ℕ) (f : FieldReading) → slice_get e.fields j ≡ Some f → has_comment_beside x f ≡ has_comment_beside y f
  beside_same j f there =
      let at_field = inside j f there in
      let first : value_end y f ≤ e.end = omega (arith, ends j f there, at_field.end) in
      ap (λ b. b && (after_bytes is_no_line_feed x (value_end x f) f.value.end == f.value.end)) (byte_same f.value.end 37 at_field.end)
      ∙ ap (λ n. has_byte_at y f.value.end 37 && (after_bytes is_no_line_feed x n f.value.end == f.value.end)) (value_end_same j f there)
      ∙ ap (λ n. has_byte_at y f.value.end 37 && (n == f.value.end))
      (after_same is_no_line_feed (value_end y f) f.value.end first at_field.end)

  own_end_same : (j : ℕ) (f : FieldReading) → slice_get e.fields j ≡ Some f → own_end x e j f ≡ own_end y e j f
  own_end_same j f there =
      let at_field = inside j f there in
      let n : ℕ = after_bytes is_no_line_feed y f.value.end (field_limit e j) in
      let n_in : n ≤ e.end = after_within is_no_line_feed y f.value.end (field_limit e j) e.end at_field.end (limit_inside j) in
      let feed = after_same is_no_line_feed f.value.end (field_limit e j) at_field.end (limit_inside j) in
      ap (λ b. cond b (line_end_at x (after_bytes is_no_line_feed x f.value.end (field_limit e j))) (value_end x f)) (beside_same j f there)
      ∙ ap (λ m. cond (has_comment_beside y f) m (value_end x f)) (ap (line_end_at x) feed ∙ line_end_same n n_in)
      ∙ ap (cond (has_comment_beside y f) (line_end_at y n)) (value_end_same j f there)

  comma_same : (j : ℕ) (f : FieldReading) → slice_get e.fields j ≡ Some f → comma_end x e j f ≡ comma_end y e j f
  comma_same j f there =
      ap (λ b. cond b (comma_after x e j f + 1) (own_end x e j f)) (comma_byte_same j f 44 there)
      ∙ ap (λ n. cond (has_byte_at y (comma_after y e j f) 44) (n + 1) (own_end x e j f)) (after_gap_same j f there)
      ∙ ap (cond (has_byte_at y (comma_after y e j f) 44) (comma_after y e j f + 1)) (own_end_same j f there)

  -- the edit of a field after a comment, by the tests and byte offsets that it depends on
  abbrev chosen : EntryReading → ℕ → Bool → Bool → Bool → Bool → ℕ → ℕ → ℕ → ℕ → Option Edit
  chosen e j sign feed next ends start from n q =
      cond (sign && feed)
      (cond next (Some (record { start = start; end = from; bytes = codes " " }))
      (cond ((from == field_limit e j) && ends) (Some (record { start = n + 1; end = q + 1; bytes = [] })) None)) None

  -- the comma before a field is at the same byte offset in both texts
  first_same : (j : ℕ) (f : FieldReading) → slice_get e.fields j ≡ Some f → comma_before x e j f ≡ comma_before y e j f
  first_same j f there =
      let at_field = inside j f there in
      gap_same (end_before e j) f.name.start (before_inside j) (omega (arith, at_field.name, at_field.value, at_field.end))

  first_in : (j : ℕ) (f : FieldReading) → slice_get e.fields j ≡ Some f → end_before e j < f.name.start
      → comma_before y e j f ≤ f.name.start
  first_in j f there before = gap_within y (end_before e j) f.name.start f.name.start (omega (arith, before)) (omega arith)

  commented_same : (j : ℕ) (f : FieldReading) → slice_get e.fields j ≡ Some f
      → (end_before e j < f.name.start) × (f.name.start < f.value.start) → comma_end y e j f ≤ e.end
      → commented_edit x e j f ≡ commented_edit y e j f
  commented_same j f there before comma =
      let at_field = inside j f there in
      let name : f.name.start ≤ e.end = omega (arith, at_field.name, at_field.value, at_field.end) in
      let limit = limit_inside j in
      let c : ℕ = comma_before y e j f in
      let c_in : c + 1 ≤ e.end =
      omega (arith, first_in j f there before.0, before.1, at_field.value, at_field.end) in
      let s : ℕ = sign_before y e j f in
      let n : ℕ = feed_before y e j f in
      let from : ℕ = sign_after y e j f in
      let q : ℕ = feed_after y e j f in
      let s_in : s ≤ e.end =
      after_within is_ascii_whitespace y (c + 1) f.name.start e.end c_in name in
      let n_in : n ≤ e.end = after_within is_no_line_feed y s f.name.start e.end s_in name in
      let from_in : from ≤ e.end = after_within is_ascii_whitespace y (comma_end y e j f) (field_limit e j) e.end comma limit in
      let q_in : q ≤ e.end = after_within is_line_space y (comma_end y e j f) (field_limit e j) e.end comma limit in
      let s_is : sign_before x e j f ≡ s =
      ap (λ m. after_bytes is_ascii_whitespace x (m + 1) f.name.start) (first_same j f there)
      ∙ after_same is_ascii_whitespace (c + 1) f.name.start c_in name in
      let n_is : feed_before x e j f ≡ n =
      ap (λ m. after_bytes is_no_line_feed x m f.name.start) s_is ∙ after_same is_no_line_feed s f.name.start s_in name in
      let from_is : sign_after x e j f ≡ from =
      ap (λ m. after_bytes is_ascii_whitespace x m (field_limit e j)) (comma_same j f there)
      ∙ after_same is_ascii_whitespace (comma_end y e j f) (field_limit e j) comma limit in
      let q_is : feed_after x e j f ≡ q =
      ap (λ m. after_bytes is_line_space x m (field_limit e j)) (comma_same j f there)
      ∙ after_same is_line_space (comma_end y e j f) (field_limit e j) comma limit in
      let byte : (m k c : ℕ) → m ≡ k → k ≤ e.end → has_byte_at x m c ≡ has_byte_at y k c =
      λ (m k c : ℕ) (is : m ≡ k) (within : k ≤ e.end). ap (λ i. has_byte_at x i c) is ∙ byte_same k c within in
      let start_is : line_end_at x (feed_before x e j f) ≡ line_end_at y n = ap (line_end_at x) n_is ∙ line_end_same n n_in in
      all_same j _ _ _ _ _ _ _ _ _ _ _ _ _ _ _ _ (byte _ _ 37 s_is s_in) (byte _ _ 10 n_is n_in) (byte _ _ 37 from_is from_in)
      (byte _ _ 10 q_is q_in) start_is from_is n_is q_is
    where
      all_same : (j : ℕ) (s1 s2 f1 f2 n1 n2 e1 e2 : Bool) (a1 a2 b1 b2 c1 c2 d1 d2 : ℕ) → s1 ≡ s2 → f1 ≡ f2 → n1 ≡ n2 → e1 ≡ e2
          → a1 ≡ a2 → b1 ≡ b2 → c1 ≡ c2 → d1 ≡ d2 → chosen e j s1 f1 n1 e1 a1 b1 c1 d1 ≡ chosen e j s2 f2 n2 e2 a2 b2 c2 d2
      all_same j s1 s2 f1 f2 n1 n2 e1 e2 a1 a2 b1 b2 c1 c2 d1 d2 s f n ends a b c d =
          ap (λ i. chosen e j i f1 n1 e1 a1 b1 c1 d1) s ∙ ap (λ i. chosen e j s2 i n1 e1 a1 b1 c1 d1) f
          ∙ ap (λ i. chosen e j s2 f2 i e1 a1 b1 c1 d1) n ∙ ap (λ i. chosen e j s2 f2 n2 i a1 b1 c1 d1) ends
          ∙ ap (λ i. chosen e j s2 f2 n2 e2 i b1 c1 d1) a ∙ ap (λ i. chosen e j s2 f2 n2 e2 a2 i c1 d1) b
          ∙ ap (λ i. chosen e j s2 f2 n2 e2 a2 b2 i d1) c ∙ ap (λ i. chosen e j s2 f2 n2 e2 a2 b2 c2 i) d

  own_same : (j : ℕ) (f : FieldReading) → slice_get e.fields j ≡ Some f
      → (end_before e j < f.name.start) × (f.name.start < f.value.start)
      → (has_byte_at y (comma_before y e j f) 44 ≡ true → is_closed y e j f ≡ true → comma_end y e j f ≤ e.end)
      → own_edit x e j f ≡ own_edit y e j f
  own_same j f there before comma =
      let start : ℕ = comma_before y e j f in
      let at_field = inside j f there in
      let name : f.name.start ≤ e.end = omega (arith, at_field.name, at_field.value, at_field.end) in
      let start_in : start ≤ e.end = omega (arith, first_in j f there before.0, name) in
      let inner : List ℕ → ℕ → Option Edit =
      λ (t : List ℕ) (n : ℕ). cond (has_percent t n f.name.start) (commented_edit t e j f) (Some (build n (comma_end t e j f))) in
      ap (λ n. cond (has_byte_at x n 44 && is_closed x e j f) (inner x n) None) (first_same j f there)
      ∙ ap (λ b. cond (b && is_closed x e j f) (inner x start) None) (byte_same start 44 start_in)
      ∙ ap (λ b. cond (has_byte_at y start 44 && b) (inner x start) None) (closed_same j f there)
      ∙ by_case (has_byte_at y start 44) (is_closed y e j f) refl refl (inner x start) (inner y start)
      (λ c p.
      ap (λ b. cond b (commented_edit x e j f) (Some (build start (comma_end x e j f))))
      (percent_same start f.name.start start_in name)
      ∙ ap (λ o. cond (has_percent y start f.name.start) o (Some (build start (comma_end x e j f))))
      (commented_same j f there before (comma c p))
      ∙ ap (λ n. cond (has_percent y start f.name.start) (commented_edit y e j f) (Some (build start n))) (comma_same j f there))
    where
      build : ℕ → ℕ → Edit
      build m n = record { start = m + 1; end = n; bytes = [] }

      by_case : (a b : Bool) → has_byte_at y (comma_before y e j f) 44 ≡ a → is_closed y e j f ≡ b → (m n : Option Edit)
          → (has_byte_at y (comma_before y e j f) 44 ≡ true → is_closed y e j f ≡ true → m ≡ n)
          → cond (a && b) m None ≡ cond (a && b) n None
      by_case true true c p m n same = same c p
      by_case true false c p m n same = refl
      by_case false b c p m n same = refl

  plain_same : (j : ℕ) (f : FieldReading) → slice_get e.fields j ≡ Some f
      → (end_before e j < f.name.start) × (f.name.start < f.value.start) → plain_edit x e j f ≡ plain_edit y e j f
  plain_same j f there before =
      let start : ℕ = comma_before y e j f in
      let at_field = inside j f there in
      let name : f.name.start ≤ e.end = omega (arith, at_field.name, at_field.value, at_field.end) in
      let start_in : start ≤ e.end = omega (arith, first_in j f there before.0, name) in
      all_same _ _ _ _ _ _ _ _ _ _
      (ap (λ n. has_byte_at x n 44) (first_same j f there) ∙ byte_same start 44 start_in)
      (comma_byte_same j f 44 there)
      (ap (λ n. has_percent x n f.name.start) (first_same j f there) ∙ percent_same start f.name.start start_in name)
      (first_same j f there) (after_gap_same j f there)
    where
      build : Bool → Bool → Bool → ℕ → ℕ → Option Edit
      build a b c m n = cond (a && b && not c) (Some (record { start = m + 1; end = n + 1; bytes = [] })) None

      all_same : (a1 a2 b1 b2 c1 c2 : Bool) (m1 m2 n1 n2 : ℕ) → a1 ≡ a2 → b1 ≡ b2 → c1 ≡ c2 → m1 ≡ m2 → n1 ≡ n2
          → build a1 b1 c1 m1 n1 ≡ build a2 b2 c2 m2 n2
      all_same a1 a2 b1 b2 c1 c2 m1 m2 n1 n2 a b c m n =
          ap (λ i. build i b1 c1 m1 n1) a ∙ ap (λ i. build a2 i c1 m1 n1) b ∙ ap (λ i. build a2 b2 i m1 n1) c
          ∙ ap (λ i. build a2 b2 c2 i n1) m ∙ ap (build a2 b2 c2 m2) n

  pub unset_same : (name : List ℕ)
      → ((j : ℕ) (f : FieldReading) → slice_get e.fields j ≡ Some f → (end_before e j < f.name.start) × (f.name.start < f.value.start))
      → ((j : ℕ) (f : FieldReading) → slice_get e.fields j ≡ Some f → has_byte_at y (comma_before y e j f) 44 ≡ true
      → is_closed y e j f ≡ true → comma_end y e j f ≤ e.end)
      → unset_edits x name e ≡ unset_edits y name e
  unset_same name before comma =
      ap (or_removals name e)
      (from_index 0 e.fields (λ i f found. let same' : i ≡ 0 + i = omega arith in subst (λ n. slice_get e.fields n ≡ Some f) same' found))
    where
      each : (more : Bool) (j : ℕ) (f : FieldReading) → slice_get e.fields j ≡ Some f
          → edit_before more x e j f ≡ edit_before more y e j f
      each true j f there = plain_same j f there (before j f there)
      each false j f there = own_same j f there (before j f there) (comma j f there)

      from_index : (n : ℕ) (fs : List FieldReading)
          → ((i : ℕ) (f : FieldReading) → slice_get fs i ≡ Some f → slice_get e.fields (n + i) ≡ Some f)
          → own_edits x name e n fs ≡ own_edits y name e n fs
      from_index n [] among = refl
      from_index n (f ∷ fs) among =
          let zero_is : n + 0 ≡ n = omega arith in
          let there : slice_get e.fields n ≡ Some f = subst (λ m. slice_get e.fields m ≡ Some f) zero_is (among 0 f refl) in
          let more = list_any (has_name name) fs in
          let rest =
          from_index (suc n) fs
          (λ i g found.
          let next : n + suc i ≡ suc n + i = omega arith in
          subst (λ m. slice_get e.fields m ≡ Some g) next (among (suc i) g found)) in
          ap (λ o. cond (has_name name f) (with_edit o (own_edits x name e (suc n) fs)) (own_edits x name e (suc n) fs))
          (each more n f there)
          ∙ ap (λ o. cond (has_name name f) (with_edit (edit_before more y e n f) o) o) rest

-- ---- readings that agree without byte offsets

set_mapped : {A B : Type 0} (view : A → B) (before rest : List A) (x y : A)
    → slice_set (map view (before ++ x ∷ rest)) (length before) (view y) ≡ map view (before ++ y ∷ rest)
set_mapped view [] rest x y = refl
set_mapped view (b ∷ bs) rest x y = ap (λ l. view b ∷ l) (set_mapped view bs rest x y)

exchanged_alike : (one other : FileReading) (before rest before' rest' : List EntryReading) (x y : EntryReading)
    → placeless (of_entries one (before ++ x ∷ rest)) ≡ placeless (of_entries other (before' ++ x ∷ rest')) → length before ≡ length before'
    → placeless (of_entries one (before ++ y ∷ rest)) ≡ placeless (of_entries other (before' ++ y ∷ rest'))
exchanged_alike one other before rest before' rest' x y alike size =
    let view = moved_entry (λ n. 0) in
    let swap : ℕ → FileReading → FileReading = λ (k : ℕ) (says : FileReading). of_entries says (slice_set says.entries k (view y)) in
    sym (ap (of_entries (placeless one)) (set_mapped view before rest x y)) ∙ ap (swap (length before)) alike
    ∙ ap (λ k. swap k (placeless (of_entries other (before' ++ x ∷ rest')))) size
    ∙ ap (of_entries (placeless other)) (set_mapped view before' rest' x y)

-- ---- the entries from one on

-- a document in which later entries are edited: the text before a byte offset and the entries before the later ones are kept
pub record Chain (d : Document) (later : List Edit) (before rest : List EntryReading) (at : ℕ) : Type 0 where
  pub after : Document
  pub read : IsDocument after
  pub text : after.text ≡ edited_all later d.text
  pub front : take at after.text ≡ take at d.text
  pub kept : (i : ℕ) (x : EntryReading) → i < length before → slice_get d.says.entries i ≡ Some x → slice_get after.says.entries i ≡ Some x
  pub alike : placeless after.says ≡ placeless (of_entries d.says (before ++ rest))
  pub within : AreEditsWithin d.text at (length d.text) later

-- if later entries are edited, an entry before them can be kept
abbrev pub chain_kept : (d : Document) (before rest : List EntryReading) (later : List Edit) (e : EntryReading) (at high : ℕ) → at ≤ high
    → Chain d later (before ++ e ∷ []) rest high → Chain d later before (e ∷ rest) at
chain_kept d before rest later e at high less more = record {
  after = more.after;
  read = more.read;
  text = more.text;
  front = same_bytes more.after.text d.text high 0 at more.front (omega (arith, less));
  kept = λ i y before_it found. more.kept i y (omega (arith, before_it, length-append before (e ∷ []))) found;
  alike = more.alike ∙ ap (λ l. placeless (of_entries d.says l)) (append_assoc before (e ∷ []) rest);
  within = within_earlier d.text at high (length d.text) later less more.within;
}

module _ (d : Document) (selected : List ℕ → Bool) (name : List ℕ) (read : IsDocument d) (utf8 : IsUtf8 d.text) where
  unset_step : (before es rest : List EntryReading) (later : List Edit) (e : EntryReading) (at : ℕ) → d.says.entries ≡ before ++ e ∷ es
      → at ≤ e.start → Chain d later (before ++ e ∷ []) rest (e.end + 1)
      → Chain d (unset_edits d.text name e ++ later) before (without_named name e ∷ rest) at
  unset_step before es rest later e at whole less more =
      let k : ℕ = length before in
      let new : Document = more.after in
      let here : slice_get d.says.entries k ≡ Some e = ap (λ l. slice_get l k) whole ∙ get_here before e es in
      let size : length (before ++ e ∷ []) ≡ suc k = omega (arith, length-append before (e ∷ [])) in
      let here' : slice_get new.says.entries k ≡ Some e = more.kept k e (omega (arith, size)) here in
      let at_entry = entry_inside d k e read here in
      let inside = λ (j : ℕ) (f : FieldReading) (there : slice_get e.fields j ≡ Some f). field_inside d k e j f read here there in
      let past : e.end < e.end + 1 = omega arith in
      let trimmed = λ (j : ℕ) (f : FieldReading) (there : slice_get e.fields j ≡ Some f).
      trimmed_known d.text f utf8 (field_placed d k e j f read here there) in
      let ends = λ (j : ℕ) (f : FieldReading) (there : slice_get e.fields j ≡ Some f). value_end_within d.text f (trimmed j f there) in
      let trimmed' : (j : ℕ) (f : FieldReading) → slice_get e.fields j ≡ Some f → IsTrimmed new.text f =
      λ (j : ℕ) (f : FieldReading) (there : slice_get e.fields j ≡ Some f).
      subst (λ n. Run is_whitespace (place new.text n) (place new.text f.value.end))
      (sym (value_end_same new.text d.text e (e.end + 1) more.front past at_entry.key_end inside ends j f there))
      (same_run d.text new.text (e.end + 1) more.front refl (omega (arith, (inside j f there).end)) (trimmed j f there)) in
      let a = around new.says.entries k e here' in
      let x = entry_unset new a.before a.following e name more.read a.whole trimmed' in
      let own = entry_unset d before es e name read whole trimmed in
      let edits : unset_edits new.text name e ≡ unset_edits d.text name e =
      unset_same new.text d.text e (e.end + 1) more.front past at_entry.key_end inside ends name
      (λ (j : ℕ) (f : FieldReading) (there : slice_get e.fields j ≡ Some f). before_name d k e j f read here there)
      (λ (j : ℕ) (f : FieldReading) (there : slice_get e.fields j ≡ Some f)
      (comma : has_byte_at d.text (comma_before d.text e j f) 44 ≡ true) (closed : is_closed d.text e j f ≡ true).
      comma_within d k e j f read here there (trimmed j f there) comma closed) in
      let small : at ≤ e.key.end = omega (arith, less, at_entry.kind_start, at_entry.kind, at_entry.key_start, at_entry.key) in
      record {
        after = x.after;
        read = x.read;
        text =
            x.text ∙ ap (λ l. edited_all l new.text) edits ∙ ap (edited_all (unset_edits d.text name e)) more.text
            ∙ sym (edited_append (unset_edits d.text name e) later d.text);
        front =
            ap (λ t. take at t) x.text
            ∙ same_bytes (edited_all (unset_edits new.text name e) new.text) new.text e.key.end 0 at
            (front_kept new.text e.key.end e.end (unset_edits new.text name e) x.within) (omega (arith, small))
            ∙ same_bytes new.text d.text (e.end + 1) 0 at more.front (omega (arith, small, at_entry.key_end));
        kept = λ i y before_it found. x.kept i y (omega (arith, before_it, a.index)) (more.kept i y (omega (arith, before_it, size)) found);
        alike =
            x.alike
            ∙ exchanged_alike new.says d.says a.before a.following before rest e (without_named name e)
            (ap (λ l. placeless (of_entries new.says l)) (sym a.whole) ∙ more.alike
            ∙ ap (λ l. placeless (of_entries d.says l)) (append_assoc before (e ∷ []) rest))
            (omega (arith, a.index));
        within =
            within_append d.text at e.end (e.end + 1) (length d.text) (unset_edits d.text name e) later (omega arith)
            (within_earlier d.text at e.key.end e.end (unset_edits d.text name e) small own.within) more.within;
      }

  all_unset : (before es : List EntryReading) (at : ℕ) → d.says.entries ≡ before ++ es → AreEntriesCut d.text at es
      → Chain d (flat_map (unset_if_selected selected d.text name) es) before (map (without_if_selected selected name) es) at
  all_unset before [] at whole cut = record {
    after = d;
    read = read;
    text = refl;
    front = refl;
    kept = λ i x before_it found. found;
    alike = ap (λ l. placeless (of_entries d.says l)) whole;
    within = cut.0;
  }
  all_unset before (e ∷ es) at whole cut =
      by_case (selected e.key.text)
      (all_unset (before ++ e ∷ []) es (e.end + 1) (whole ∙ sym (append_assoc before (e ∷ []) es)) cut.2)
    where
      later : List Edit
      later = flat_map (unset_if_selected selected d.text name) es

      rest : List EntryReading
      rest = map (without_if_selected selected name) es

      by_case : (b : Bool) → Chain d later (before ++ e ∷ []) rest (e.end + 1)
          → Chain d (cond b (unset_edits d.text name e) [] ++ later) before (cond b (without_named name e) e ∷ rest) at
      by_case true more = unset_step before es rest later e at whole cut.0.ordered more
      by_case false more =
          chain_kept d before rest later e at (e.end + 1) (omega (arith, cut.0.ordered, cut.1.whole.ordered)) more

  -- the document after the field is unset in all selected entries
  pub fields_unset : Chain d (flat_map (unset_if_selected selected d.text name) d.says.entries) []
      (map (without_if_selected selected name) d.says.entries) 0
  fields_unset = all_unset [] d.says.entries 0 refl (document_cut d.text d.says read)

  pub unsets_in_order : AreEditsInOrder d.text 0 (flat_map (unset_if_selected selected d.text name) d.says.entries)
  unsets_in_order =
      within_order d.text 0 (length d.text) (flat_map (unset_if_selected selected d.text name) d.says.entries) fields_unset.within

-- The text is UTF-8, and each selected entry that has fields keeps one. Then a call that returns the text with the edits for them returns
-- the document without these fields.
pub selection_unset : {S : Type 0} (bytes : S → List ℕ) (d : Document) (selected : List ℕ → Bool) (name : List ℕ) (new : S) → IsDocument d
    → IsUtf8 d.text → list_any (would_be_empty selected name) d.says.entries ≡ false
    → bytes new ≡ edited_all (flat_map (unset_if_selected selected d.text name) d.says.entries) d.text
    → IsEdited (FieldsUnset d selected name) (bytes new)
selection_unset bytes d selected name new read utf8 left is =
    let x = fields_unset d selected name read utf8 in
    record {
      document = x.after;
      outcome = record { left = left; text = x.text; alike = x.alike };
      is = is ∙ sym x.text;
      read = x.read;
    }
