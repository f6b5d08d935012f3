-- An edit that removes a field between two commas also removes it after edits of later fields.
use Rattle.std.proofs.Common.{◌≡◌, ℕ, zero, suc, ◌+◌, ◌<◌, ◌≤◌, true, List, [], ◌∷◌, length, take, refl, ap, ◌∙◌, arith, Some}
use Rattle.std.specs.Prelude.{slice_get}
use Rattle.std.specs.Option.{option_map_or}
use Rattle.bib_text.specs.Places.{place}
use Rattle.bib_text.proofs.PlaceFacts.{ahead_char, ahead_then, char_within}
use Rattle.bib_syntax.specs.Reading.{EntryReading, FieldReading}
use Rattle.bib_syntax.proofs.FieldFacts.{ahead_fields, ahead_gap}
use Rattle.bib_queries.specs.Bytes.{has_byte_at}
use Rattle.edit_entries.specs.Documents.{Document, IsDocument, field_limit}
use Rattle.edit_entries.specs.Unset.{comma_after, comma_before, end_before, gap_end}
use Rattle.edit_entries.proofs.FieldsFromFacts.{fields_past}
use Rattle.edit_entries.proofs.GapEndFacts.{fields_start, gap_past, gap_stops, gap_within}
use Rattle.edit_entries.proofs.KeptFacts.{field_inside}
use Rattle.edit_entries.proofs.LineFacts.{LineRemoved, Surroundings, before_name, comma_place, line_cut, preceded}
use Rattle.edit_entries.proofs.PrefixFacts.{byte_prefix, gap_found_there, gap_prefix}
use Rattle.edit_entries.proofs.UnsetFacts.{limit_is, limit_of}

byte_inside : (text : List ℕ) (n c : ℕ) → has_byte_at text n c ≡ true → n < length text
byte_inside [] n c is = absurd (cc)
byte_inside (b ∷ bs) zero c is = omega arith
byte_inside (b ∷ bs) (suc n) c is = omega (arith, byte_inside bs n c is)

-- the edit ends at or before the next field or the closing brace
pub limit_after : (d : Document) (k : ℕ) (e : EntryReading) (j : ℕ) (f : FieldReading) (start end : ℕ)
    → Surroundings d k e j f start end → (end ≤ field_limit e j) × (field_limit e j ≤ length d.text)
limit_after d k e j f start end a =
    let starts = fields_start a.r.rest.fields (gap_stops a.r.rest.gap) a.s.block.closes in
    let limit : field_limit e j ≡ a.r.rest.start.at =
    ap (λ fs. option_map_or (λ h. h.name.start) (slice_get fs (suc j)) e.end) a.g.whole
    ∙ limit_is a.g.before a.g.following f j e.end a.g.index ∙ ap (limit_of a.g.following) a.s.block.ends ∙ starts.is in
    let to_end =
    ahead_then (ahead_gap a.r.rest.gap) (ahead_then (ahead_fields a.r.rest.fields) (ahead_char a.s.block.closes)) in (
      omega (arith, limit, a.r.is, (ahead_gap a.r.rest.gap).at),
      omega (
        arith,
        limit,
        (ahead_fields a.r.rest.fields).at,
        char_within a.s.block.closes,
        ap length to_end.text,
        ap length a.r.same,
      ),
    )

-- the edit that removes a field between two commas also removes it in another document. That document has this field, and the same text up
-- to the end of the second comma. The key or value before the field ends at the same byte offset in both documents
pub line_there : (d after : Document) (k : ℕ) (e x : EntryReading) (n : ℕ) (f : FieldReading) → IsDocument after
    → slice_get after.says.entries k ≡ Some x → slice_get x.fields n ≡ Some f → end_before x n ≡ end_before e n
    → take (comma_after d.text e n f + 1) after.text ≡ take (comma_after d.text e n f + 1) d.text
    → has_byte_at d.text (comma_before d.text e n f) 44 ≡ true → has_byte_at d.text (comma_after d.text e n f) 44 ≡ true
    → comma_after d.text e n f < field_limit e n → field_limit e n ≤ length d.text
    → LineRemoved after k x n f (comma_before d.text e n f + 1)
    (record { start = comma_before d.text e n f + 1; end = comma_after d.text e n f + 1; bytes = [] })
line_there d after k e x n f read here there end same comma closed before within =
    let text = after.text in
    let b : ℕ = comma_before d.text e n f in
    let g : ℕ = comma_after d.text e n f in
    let names = before_name after k x n f read here there in
    let at_field = field_inside after k x n f read here there in
    let past : f.value.end ≤ g = gap_past d.text f.value.end (field_limit e n) in
    let name : f.name.start < g = omega (arith, names.1, at_field.value, past) in
    let first : end_before e n < f.name.start = omega (arith, names.0, end) in
    let b_in : b ≤ f.name.start = gap_within d.text (end_before e n) f.name.start f.name.start (omega (arith, first)) (omega arith) in
    let b_is : comma_before text x n f ≡ b =
    ap (λ m. gap_end text m f.name.start) end
    ∙ gap_prefix text d.text (g + 1) same (end_before e n) f.name.start (omega (arith, first, name)) (omega (arith, name)) in
    let byte : has_byte_at text (comma_before text x n f) 44 ≡ true =
    ap (λ m. has_byte_at text m 44) b_is ∙ byte_prefix text d.text (g + 1) same b 44 (omega (arith, b_in, name)) ∙ comma in
    let closed' : has_byte_at text g 44 ≡ true = byte_prefix text d.text (g + 1) same g 44 (omega arith) ∙ closed in
    let size = byte_inside text g 44 closed' in
    let gap_is : gap_end text f.value.end (length text) ≡ g =
    gap_found_there text d.text (g + 1) same f.value.end (field_limit e n) (length text) g refl closed (omega arith) before within
    (omega (arith, size)) (omega arith) in
    let a = preceded after k x n f read here there in
    let around : Surroundings after k x n f (b + 1) (g + 1) = record {
      s = a.s;
      g = a.g;
      c = a.c;
      r = fields_past text f g a.value gap_is closed' a.g.rest a.s.block.closes;
      after = comma_place after k x n f a byte ∙ ap (λ m. place text (m + 1)) b_is;
    } in
    line_cut after k x n f (b + 1) (g + 1) around (omega (arith, b_in, name)) (omega (arith, name))
