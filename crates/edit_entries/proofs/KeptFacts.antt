-- The byte offsets of an entry and its fields, the entries before an edit, and edits in a part of a text.
use Rattle.std.proofs.Common.{◌≡◌, ℕ, zero, suc, ◌+◌, ◌<◌, ◌≤◌, List, [], ◌∷◌, ◌++◌, length, map, take, refl, ap, ◌∙◌, subst, arith, Some}
use Rattle.std.specs.Prelude.{slice_get}
use Rattle.std.specs.Str.{IsCharBoundary}
use Rattle.std.proofs.lemmas.List.{length-take-le}
use Rattle.bib_text.proofs.PlaceFacts.{ahead_char, ahead_run, ahead_then}
use Rattle.bib_syntax.specs.Reading.{EntryReading, FieldReading, Part}
use Rattle.bib_syntax.proofs.FieldFacts.{ahead_elements, ahead_fields, ahead_gap}
use Rattle.edit_entries.specs.Cuts.{AreEntriesCut}
use Rattle.edit_entries.specs.Documents.{Document, IsDocument}
use Rattle.edit_entries.specs.EditList.{AreEditsInOrder}
use Rattle.edit_entries.specs.Edits.{Edit, edited, edited_all, moved_entry, moved_field, moved_part}
use Rattle.edit_entries.proofs.AgreementFacts.{field_stays, same_bytes, unmoved_part}
use Rattle.edit_entries.proofs.CutFacts.{document_cut}
use Rattle.edit_entries.proofs.EditFacts.{front}
use Rattle.edit_entries.proofs.SplitFacts.{ahead_fields_after, ahead_fields_before, split_fields, split_file}

-- ---- the byte offsets of an entry

-- the parts of an entry are between its start and its end
pub record IsInside (e : EntryReading) : Type 0 where
  pub kind_start : e.start ≤ e.kind.start
  pub kind : e.kind.start ≤ e.kind.end
  pub key_start : e.kind.end ≤ e.key.start
  pub key : e.key.start ≤ e.key.end
  pub key_end : e.key.end ≤ e.end

pub entry_inside : (d : Document) (k : ℕ) (e : EntryReading) → IsDocument d → slice_get d.says.entries k ≡ Some e → IsInside e
entry_inside d k e read here =
    let b = (split_file k e read here).block in
    let h = b.head in
    let to_key = ahead_then (ahead_run h.white.run) (ahead_then (ahead_char h.opens) (ahead_run h.white'.run)) in
    let to_brace =
    ahead_then (ahead_run b.white.run) (ahead_then (ahead_char b.comma) (ahead_then (ahead_gap b.gap) (ahead_fields b.fields))) in
    let start_is = ap (λ p. p.start) h.name.reading in
    let end_is = ap (λ p. p.end) h.name.reading in
    let key_start = ap (λ p. p.start) b.key_is in
    let key_end = ap (λ p. p.end) b.key_is in
    record {
      kind_start = omega (arith, b.starts, start_is, (ahead_char h.sign).at);
      kind = omega (arith, start_is, end_is, (ahead_char h.name.here).at, (ahead_run h.name.rest.run).at);
      key_start = omega (arith, end_is, to_key.at, key_start);
      key = omega (arith, key_start, key_end, (ahead_run b.key.run).at);
      key_end = omega (arith, key_end, to_brace.at, b.ends);
    }

-- a field of an entry is between the entry's key and its end
pub record IsFieldInside (e : EntryReading) (f : FieldReading) : Type 0 where
  pub start : e.key.end ≤ f.name.start
  pub name : f.name.start ≤ f.value.start
  pub value : f.value.start ≤ f.value.end
  pub end : f.value.end ≤ e.end

pub field_inside : (d : Document) (k : ℕ) (e : EntryReading) (j : ℕ) (f : FieldReading) → IsDocument d
    → slice_get d.says.entries k ≡ Some e → slice_get e.fields j ≡ Some f → IsFieldInside e f
field_inside d k e j f read here there =
    let b = (split_file k e read here).block in
    let g = split_fields j f b.fields there in
    let field = g.field in
    let name = field.name in
    let to_field =
    ahead_then (ahead_run b.white.run)
    (ahead_then (ahead_char b.comma) (ahead_then (ahead_gap b.gap) (ahead_fields_before g.first))) in
    let to_value =
    ahead_then (ahead_char name.here)
    (ahead_then (ahead_run name.rest.run)
    (ahead_then (ahead_run field.white.run) (ahead_then (ahead_char field.sign) (ahead_run field.white'.run)))) in
    let start_is = ap (λ p. p.start) name.reading in
    record {
      start = omega (arith, ap (λ p. p.end) b.key_is, to_field.at, start_is);
      name = omega (arith, start_is, to_value.at, field.starts);
      value = omega (arith, field.starts, field.ends, (ahead_elements field.elements).at);
      end = omega (arith, field.ends, (ahead_fields_after g.rest).at, b.ends);
    }

-- entries that may be cut out from a byte offset on begin at or after it
start_past : (text : List ℕ) (at : ℕ) (es : List EntryReading) (k : ℕ) (e : EntryReading) → AreEntriesCut text at es
    → slice_get es k ≡ Some e → at ≤ e.start
start_past text at [] k e cut here = absurd (cc)
start_past text at (y ∷ ys) zero e cut here = let same : y ≡ e = cc in subst (λ z. at ≤ z.start) same cut.0.ordered
start_past text at (y ∷ ys) (suc k) e cut here =
    omega (arith, cut.0.ordered, cut.1.whole.ordered, start_past text (y.end + 1) ys k e cut.2 here)

end_past : (text : List ℕ) (at : ℕ) (es : List EntryReading) (i k : ℕ) (x e : EntryReading) → AreEntriesCut text at es
    → slice_get es i ≡ Some x → slice_get es k ≡ Some e → i < k → x.end < e.start
end_past text at [] i k x e cut first second less = absurd (cc)
end_past text at (y ∷ ys) i zero x e cut first second less = absurd (omega (arith, less))
end_past text at (y ∷ ys) zero (suc k) x e cut first second less =
    let same : y ≡ x = cc in
    let past : y.end + 1 ≤ e.start = start_past text (y.end + 1) ys k e cut.2 second in
    subst (λ z. z.end < e.start) same (omega (arith, past))
end_past text at (y ∷ ys) (suc i) (suc k) x e cut first second less =
    end_past text (y.end + 1) ys i k x e cut.2 first second (omega (arith, less))

-- ---- the entries before an edit

fields_stay : (move : ℕ → ℕ) (fs : List FieldReading) → ((j : ℕ) (f : FieldReading) → slice_get fs j ≡ Some f → moved_field move f ≡ f)
    → map (moved_field move) fs ≡ fs
fields_stay move [] each = refl
fields_stay move (f ∷ fs) each =
    ap (λ g. g ∷ map (moved_field move) fs) (each 0 f refl) ∙ ap (λ gs. f ∷ gs) (fields_stay move fs (λ j. each (suc j)))

-- an entry before another one is kept if byte offsets up to the start of the other are
pub entry_stays : (d : Document) (i k : ℕ) (x e : EntryReading) (move : ℕ → ℕ) → IsDocument d → slice_get d.says.entries i ≡ Some x
    → slice_get d.says.entries k ≡ Some e → i < k → ((n : ℕ) → n ≤ e.start → move n ≡ n) → moved_entry move x ≡ x
entry_stays d i k x e move read first second less stays =
    let past = end_past d.text 0 d.says.entries i k x e (document_cut d.text d.says read) first second less in
    let at = entry_inside d i x read first in
    let build : Part → Part → List FieldReading → ℕ → ℕ → EntryReading =
    λ (key kind : Part) (fs : List FieldReading) (m n : ℕ). record { key = key; kind = kind; fields = fs; start = m; end = n } in
    let fields = map (moved_field move) x.fields in
    ap (λ p. build p (moved_part move x.kind) fields (move x.start) (move x.end))
    (unmoved_part move x.key (stays x.key.start (omega (arith, past, at.key, at.key_end)))
    (stays x.key.end (omega (arith, past, at.key_end))))
    ∙ ap (λ p. build x.key p fields (move x.start) (move x.end))
    (unmoved_part move x.kind (stays x.kind.start (omega (arith, past, at.kind, at.key_start, at.key, at.key_end)))
    (stays x.kind.end (omega (arith, past, at.key_start, at.key, at.key_end))))
    ∙ ap (λ fs. build x.key x.kind fs (move x.start) (move x.end))
    (fields_stay move x.fields
    (λ j f there.
    field_stays d i x j f move x.end read first there (field_inside d i x j f read first there).end
    (λ n small. stays n (omega (arith, past, small)))))
    ∙ ap (λ n. build x.key x.kind x.fields n (move x.end))
    (stays x.start (omega (arith, past, at.kind_start, at.kind, at.key_start, at.key, at.key_end)))
    ∙ ap (build x.key x.kind x.fields x.start) (stays x.end (omega (arith, past)))

-- ---- edits in a part of a text

-- edits in order between two byte offsets
abbrev pub AreEditsWithin : List ℕ → ℕ → ℕ → List Edit → Type 0
AreEditsWithin text at end [] = at ≤ end
AreEditsWithin text at end (edit ∷ rest) =
    (at ≤ edit.start) × (edit.start ≤ edit.end) × IsCharBoundary text edit.start × IsCharBoundary text edit.end
    × AreEditsWithin text edit.end end rest

pub within_order : (text : List ℕ) (at end : ℕ) (edits : List Edit) → AreEditsWithin text at end edits → AreEditsInOrder text at edits
within_order text at end [] within = tt
within_order text at end (edit ∷ rest) within = (within.0, within.1, within.2, within.3, within_order text edit.end end rest within.4)

pub within_earlier : (text : List ℕ) (less at end : ℕ) (edits : List Edit) → less ≤ at → AreEditsWithin text at end edits
    → AreEditsWithin text less end edits
within_earlier text less at end [] small within = omega (arith, small, within)
within_earlier text less at end (edit ∷ rest) small within =
    (omega (arith, small, within.0), within.1, within.2, within.3, within.4)

pub within_append : (text : List ℕ) (at mid low end : ℕ) (xs ys : List Edit) → mid ≤ low → AreEditsWithin text at mid xs
    → AreEditsWithin text low end ys → AreEditsWithin text at end (xs ++ ys)
within_append text at mid low end [] ys small first second = within_earlier text at low end ys (omega (arith, small, first)) second
within_append text at mid low end (x ∷ xs) ys small first second =
    (first.0, first.1, first.2, first.3, within_append text x.end mid low end xs ys small first.4 second)

-- the text before these edits is kept
pub front_kept : (text : List ℕ) (at end : ℕ) (edits : List Edit) → AreEditsWithin text at end edits
    → take at (edited_all edits text) ≡ take at text
front_kept text at end [] within = refl
front_kept text at end (edit ∷ rest) within =
    let others : List ℕ = edited_all rest text in
    let same : take edit.start others ≡ take edit.start text =
    front_kept text edit.start end rest (within_earlier text edit.start edit.end end rest within.1 within.4) in
    let size : edit.start ≤ length others =
    omega (arith, ap length same, length-take-le edit.start text within.2.0, length_take edit.start others) in
    let kept : take edit.start (edited edit others) ≡ take edit.start others = front edit.start edit.end edit.bytes others size in
    same_bytes (edited edit others) text edit.start 0 at (kept ∙ same) (omega (arith, within.0))
  where
    length_take : (n : ℕ) (xs : List ℕ) → length (take n xs) ≤ length xs
    length_take zero xs = omega arith
    length_take (suc n) [] = omega arith
    length_take (suc n) (x ∷ xs) = omega (arith, length_take n xs)

-- making two lists of edits is making the second, and then the first
pub edited_append : (xs ys : List Edit) (text : List ℕ) → edited_all (xs ++ ys) text ≡ edited_all xs (edited_all ys text)
edited_append [] ys text = refl
edited_append (x ∷ xs) ys text = ap (edited x) (edited_append xs ys text)
