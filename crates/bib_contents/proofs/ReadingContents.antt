-- The loop that parses contents: the invariant at each unit.
use Rattle.std.proofs.Common.{◌≡◌, ℕ, ◌+◌, ◌-◌, ◌<◌, ◌≤◌, ◌^◌, Bool, List, [], ◌++◌, length, drop, map, refl, sym, ap, ◌∙◌, subst, arith, append_assoc, length-append, length-drop}
use Rattle.std.specs.Prelude.{encode_utf8_all, string_bytes}
use Rattle.std.specs.Str.{chars, IsUtf8}
use Rattle.std.proofs.lemmas.List.{map-append, append-nil}
use Rattle.std.proofs.lemmas.Str.{IsUtf8-string_bytes, chars-nil, encodes-append, encodes-chars, length-le-encodes}
use Rattle.bib_text.specs.Places.{Place}
use Rattle.bib_chunks.specs.Styled.{Atom, styled}
use Rattle.bib_chunks.specs.declared.chunk.Chunk.{Chunk}
use Rattle.bib_text.specs.declared.spanned.Spanned.{Spanned}
use Rattle.bib_contents.specs.Contents.{ContentUnit, IsNext, Reads, character, depth_after, unit_spelling, saturate}
use Rattle.bib_chunks.specs.Joined.{AreJoined, ArePlaced}
use Rattle.bib_contents.specs.Progress.{left, Passes, Renders, Took, StaysPlaced, so_far}
use Rattle.bib_contents.specs.declared.growing.OpenChunk.{OpenChunk}
use Rattle.bib_contents.proofs.ArgumentFacts.{passes_within, passes_ahead, passes_shorter}
use Rattle.bib_contents.proofs.ReaderFacts.{ReadSoFar, read_none, read_plain, read_unit, read_all, unit_shorter}
use Rattle.bib_contents.proofs.TakingFacts.{grown_chars}

-- contents were parsed up to the cursor `s`: the chunks have the atoms so far, stay joined, and are in order
pub record Reading (is_verbatim : Bool) (text : List ℕ) (offset : ℕ) (start : List (Spanned Chunk)) (s : Place)
    (growing : OpenChunk) (out : List (Spanned Chunk)) : Type 0 where
  pub read : ReadSoFar is_verbatim (chars text) (styled start) (left s) growing.depth (so_far out growing)
  pub shorter : length (left s) ≤ length (chars text)
  pub joined : AreJoined start → AreJoined out
  pub placed : (low : ℕ) → ArePlaced low offset start → ArePlaced low growing.start out × (growing.start ≤ saturate (offset + s.at))
  pub deep : growing.depth ≤ s.at
  pub same : s.text ≡ text
  pub within : s.at ≤ length s.text

-- at the start nothing was parsed
pub reading_none : (is_verbatim : Bool) (text : List ℕ) (offset : ℕ) (start : List (Spanned Chunk)) (s : Place)
    (growing : OpenChunk) → s ≡ record { text = text; at = 0 } → offset ≤ 2 ^ 64 - 1 → growing.depth ≡ 0
    → growing.start ≡ offset
    → string_bytes growing.text ≡ [] → Reading is_verbatim text offset start s growing start
reading_none is_verbatim text offset start s growing here fits shallow begins empty = record {
  read =
      rw (here, shallow)
      (read_none is_verbatim (chars text) (styled start) _
      (ap (λ cs. styled start ++ map (character 0) cs) (ap chars empty ∙ chars-nil) ∙ append-nil (styled start)));
  shorter = rw here (omega arith);
  joined = λ joined. joined;
  placed = λ low placed. rw (begins, here) (placed, omega (arith, fits));
  deep = rw shallow (omega arith);
  same = rw here refl;
  within = rw here (omega arith);
}

-- a step of the loop: a run of plain characters
pub reading_plain : {is_verbatim : Bool} {text : List ℕ} {offset : ℕ} {start out : List (Spanned Chunk)} {s t : Place}
    (growing grown : OpenChunk) → Reading is_verbatim text offset start s growing out
    → Renders is_verbatim s t growing.text grown.text
    → grown.depth ≡ growing.depth → grown.start ≡ growing.start → Reading is_verbatim text offset start t grown out
reading_plain {is_verbatim} {text} {offset} {start} {out} {s} {t} growing grown reading renders depth begins =
    let shown : List ℕ = renders.0 in
    let passes : Passes s renders.1.passed t = renders.1.passes in
    let ahead : s.at ≤ t.at = passes_ahead passes in
    let more : so_far out grown ≡ so_far out growing ++ map (character growing.depth) shown =
    ap (λ d. styled out ++ map (character d) (chars (string_bytes grown.text))) depth
    ∙ ap (λ cs. styled out ++ map (character growing.depth) cs)
    (grown_chars (string_bytes growing.text) (string_bytes grown.text) shown (IsUtf8-string_bytes growing.text)
    (IsUtf8-string_bytes grown.text) renders.2)
    ∙ ap (λ xs. styled out ++ xs) (map-append (character growing.depth) (chars (string_bytes growing.text)) shown)
    ∙ sym (append_assoc (styled out) _ _) in
    record {
      read =
          subst (λ d. ReadSoFar is_verbatim (chars text) (styled start) (left t) d (so_far out grown)) (sym depth)
          (read_plain (map (character growing.depth) shown) reading.read (renders.1.goes growing.depth) more);
      shorter =
          let size : length (left t) ≤ length (left s) = passes_shorter passes in
          let before : length (left s) ≤ length (chars text) = reading.shorter in
          omega arith;
      joined = reading.joined;
      placed = λ low placed. let before = reading.placed low placed in rw begins (before.0, omega (arith, before.1, ahead));
      deep = rw depth (omega (arith, reading.deep, ahead));
      same = passes.same ∙ reading.same;
      within = passes_within passes reading.within;
    }

-- in UTF-8 text, the offset after a unit is the offset before it plus the number of the unit's bytes
pub unit_place : {is_verbatim : Bool} {u : ContentUnit} {s t : Place} → IsNext is_verbatim u (left s) (left t)
    → t.text ≡ s.text → IsUtf8 (drop s.at s.text) → IsUtf8 (drop t.at t.text) → s.at ≤ length s.text
    → t.at ≤ length t.text
    → t.at ≡ s.at + length (encode_utf8_all (unit_spelling u))
unit_place {is_verbatim} {u} {s} {t} one same utf8 utf8' within within' =
    let bytes : drop s.at s.text ≡ encode_utf8_all (unit_spelling u) ++ drop t.at t.text =
    sym (encodes-chars (drop s.at s.text) utf8) ∙ ap encode_utf8_all one.spells
    ∙ encodes-append (unit_spelling u) (left t)
    ∙ ap (λ bs. encode_utf8_all (unit_spelling u) ++ bs) (encodes-chars (drop t.at t.text) utf8') in
    let sizes : length s.text - s.at ≡ length (encode_utf8_all (unit_spelling u)) + (length t.text - t.at) =
    sym (length-drop s.at s.text) ∙ ap length bytes ∙ length-append (encode_utf8_all (unit_spelling u)) _
    ∙ ap (λ n. length (encode_utf8_all (unit_spelling u)) + n) (length-drop t.at t.text) in
    let texts : length t.text ≡ length s.text = ap length same in
    omega arith

-- a unit opens at most one brace
deeper : (depth : ℕ) (u : ContentUnit) → depth_after depth u ≤ depth + 1
deeper depth (ContentUnit.hyphens n) = omega arith
deeper depth (ContentUnit.spaces cs) = omega arith
deeper depth ContentUnit.opening = omega arith
deeper depth ContentUnit.closing = omega arith
deeper depth (ContentUnit.escaped c) = omega arith
deeper depth ContentUnit.backslash = omega arith
deeper depth (ContentUnit.copied c) = omega arith
deeper depth (ContentUnit.formula text) = omega arith
deeper depth (ContentUnit.command name space argument) = omega arith
deeper depth (ContentUnit.other c) = omega arith

-- a step of the loop: a unit
pub reading_unit : {is_verbatim : Bool} {text : List ℕ} {offset : ℕ} {start out more : List (Spanned Chunk)}
    {s t : Place} {u : ContentUnit} (growing grown : OpenChunk)
    → Reading is_verbatim text offset start s growing out → IsNext is_verbatim u (left s) (left t) → t.text ≡ s.text
    → t.at ≡ s.at + length (encode_utf8_all (unit_spelling u)) → t.at ≤ length t.text
    → Took u growing.depth (so_far out growing) grown.depth (so_far more grown) → (AreJoined out → AreJoined more)
    → StaysPlaced out growing (saturate (offset + s.at)) more grown (saturate (offset + t.at))
    → Reading is_verbatim text offset start t grown more
reading_unit {is_verbatim} {text} {offset} {start} {out} {more} {s} {t} {u} growing grown reading one same next within took joined moved =
    let shorter = unit_shorter one in
    let following : length (left t) < length (left s) = shorter.0 in
    let spelt : length (unit_spelling u) ≤ length (encode_utf8_all (unit_spelling u)) = length-le-encodes (unit_spelling u) in
    let size : length (left s) ≡ length (unit_spelling u) + length (left t) = ap length one.spells ∙ length-append (unit_spelling u) _ in
    let deep : grown.depth ≤ growing.depth + 1 = rw took.deep (deeper growing.depth u) in
    let before : growing.depth ≤ s.at = reading.deep in
    let left_before : length (left s) ≤ length (chars text) = reading.shorter in
    record {
      read = read_unit reading.read one took;
      shorter = omega arith;
      joined = λ start_joined. joined (reading.joined start_joined);
      placed = λ low placed. let was = reading.placed low placed in moved low was.0 was.1;
      deep = omega arith;
      same = same ∙ reading.same;
      within = within;
    }

-- at the end of the text the atoms are those of the contents
pub reading_all : {is_verbatim : Bool} {text : List ℕ} {offset : ℕ} {start out : List (Spanned Chunk)} {s : Place}
    (growing : OpenChunk) (after : List Atom) → Reading is_verbatim text offset start s growing out → left s ≡ []
    → after ≡ so_far out growing
    → (atoms : List Atom) × Reads is_verbatim 0 (chars text) atoms × (after ≡ styled start ++ atoms)
reading_all growing after reading ends is =
    let all = read_all reading.read ends in
    (all.0, all.1, is ∙ all.2)

-- if the chunks at the start end before the text, the open chunk starts neither before the end of the finished ones nor after the text
pub reading_ends : {is_verbatim : Bool} {text : List ℕ} {offset : ℕ} {start out : List (Spanned Chunk)} {s : Place}
    (growing : OpenChunk) → Reading is_verbatim text offset start s growing out → (low : ℕ)
    → ArePlaced low offset start
    → ArePlaced low growing.start out × (growing.start ≤ saturate (offset + length text))
reading_ends {is_verbatim} {text} {offset} {start} {out} {s} growing reading low placed =
    let was = reading.placed low placed in
    let within : s.at ≤ length s.text = reading.within in
    let same : length s.text ≡ length text = ap length reading.same in
    (was.0, omega (arith, was.1, within, same))
