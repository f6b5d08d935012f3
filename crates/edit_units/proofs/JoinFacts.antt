-- Texts of files with line feeds between them.
use Rattle.std.proofs.Common.{◌≡◌, inl, inr, ℕ, ◌+◌, ◌-◌, ◌<◌, arith, true, false, List, [], ◌∷◌, ◌++◌, length, take, refl, sym, ap, ◌∙◌, subst, append_assoc, append-nil}
use Rattle.std.specs.Char.{is_ascii_whitespace, is_whitespace}
use Rattle.std.specs.List.{AllByRecursion, flat_map, list_all}
use Rattle.std.proofs.lemmas.Bool.{and_parts}
use Rattle.bib_text.specs.Places.{place}
use Rattle.bib_text.proofs.PlaceFacts.{char_left, test_clash}
use Rattle.bib_syntax.specs.Grammar.{IsRawReading}
use Rattle.bib_syntax.specs.Grammar.{File as file}
use Rattle.bib_syntax.specs.Reading.{FileReading, empty_reading, then}
use Rattle.bib_syntax.proofs.FileFacts.{is_skipped, is_skipped_from, then-empty_reading}
use Rattle.edit_entries.specs.Changes.{IsReadPlaceless}
use Rattle.edit_entries.specs.Documents.{Document}
use Rattle.edit_entries.specs.Edits.{moved_file, placeless}
use Rattle.edit_entries.proofs.EditFacts.{ascii_stands, rest_stands}
use Rattle.edit_entries.proofs.GrammarFacts.{moved-then}
use Rattle.edit_entries.proofs.JoinedFacts.{joined_by_read}
use Rattle.edit_entries.proofs.MovedFacts.{file_there}
use Rattle.edit_entries.proofs.PlacelessFacts.{file_placeless}
use Rattle.edit_entries.proofs.WhiteBeforeFacts.{white_ascii}
use Rattle.edit_entries.proofs.ZoneFacts.{Frame, Inside, Zone}
use Rattle.edit_units.specs.Parts.{AreParts, FilePart, IsFileEnd, IsLineEnd, IsNextPart, IsWhite, text_of_parts, parts_together}

-- ---- white space before a text

abbrev behind : ℕ → List ℕ → Frame
behind c text = record { old = text; new = c ∷ text; move = λ n. n + 1; from = 0; to = 1; end = length text + 1 }

zone_behind : (c : ℕ) (text : List ℕ) → Zone (behind c text)
zone_behind c text = record {
  moves = λ n from below. omega arith;
  same = ap (take (length text + 1 - 0)) (sym (rest_stands (c ∷ text) text 0 c refl));
  cut = λ {u} {v} {c} same char below. omega (arith, char_left char, char.next, ap length same);
}

-- a text after one more ASCII character outside of blocks
one_before : (c : ℕ) (text : List ℕ) (says : FileReading) → c < 128 → is_skipped c ≡ true → IsRawReading text says
    → IsRawReading (c ∷ text) (moved_file (λ n. n + 1) says)
one_before c text says small passes read =
    let start : Inside (behind c text) (place text 0) =
    record { text = refl; start = omega arith; end = omega arith; moved = omega arith } in
    let sizes : length text + 1 ≡ length (c ∷ text) + 0 = omega arith in
    file.skipped (ascii_stands (c ∷ text) text 0 c small refl) passes (file_there (zone_behind c text) refl sizes start read)

-- ASCII white space is ASCII, and is skipped outside of blocks
white_skipped : (c : ℕ) → is_ascii_whitespace c ≡ true → (c < 128) × (is_skipped c ≡ true)
white_skipped c white =
    let (small, space) = white_ascii c white in (
      small,
      is_skipped_from c (λ same. clash 64 refl (subst (λ x. is_whitespace x ≡ true) same space))
          (λ same. clash 37 refl (subst (λ x. is_whitespace x ≡ true) same space)),
    )
  where
    clash : (x : ℕ) → is_whitespace x ≡ false → is_whitespace x ≡ true → ⊥
    clash x differs white = test_clash (is_whitespace x) white differs

-- white space before a text moves its content
pub white_before : (white text : List ℕ) (says : FileReading) → IsWhite white → IsReadPlaceless says text
    → IsReadPlaceless says (white ++ text)
white_before [] text says all read = read
white_before (c ∷ white) text says all read =
    let parts = and_parts (is_ascii_whitespace c) (list_all is_ascii_whitespace white) all in
    let rest = white_before white text says parts.1 read in
    let skip = white_skipped c parts.0 in
    record {
      tells = moved_file (λ n. n + 1) rest.tells;
      read = one_before c (white ++ text) rest.tells skip.0 skip.1 rest.read;
      alike = file_placeless (λ n. n + 1) rest.tells ∙ rest.alike;
    }

-- an empty text has no content
nothing_read : IsReadPlaceless empty_reading []
nothing_read = record { tells = empty_reading; read = file.end refl; alike = refl }

-- white space has no content
pub white_read : (white : List ℕ) → IsWhite white → IsReadPlaceless empty_reading white
white_read white all = subst (IsReadPlaceless empty_reading) (append-nil white) (white_before white [] empty_reading all nothing_read)

-- ---- two texts with a line feed between them

-- contents without byte offsets, one after another
placeless-then : (a b : FileReading) → placeless (then a b) ≡ then (placeless a) (placeless b)
placeless-then a b = moved-then (λ n. 0) a b

pub feed_between : (first second : List ℕ) (a b : FileReading) → IsReadPlaceless a first → IsReadPlaceless b second
    → IsReadPlaceless (then a b) (first ++ 10 ∷ second)
feed_between first second a b read reads =
    let d : Document = record { text = first; says = read.tells } in
    let more : Document = record { text = second; says = reads.tells } in
    let move : ℕ → ℕ = λ n. n + (length first + 1) in
    record {
      tells = then read.tells (moved_file move reads.tells);
      read = joined_by_read false d more read.read reads.read;
      alike = placeless-then read.tells (moved_file move reads.tells)
          ∙ ap (then (placeless read.tells)) (file_placeless move reads.tells)
          ∙ ap (λ x. then x (placeless reads.tells)) read.alike ∙ ap (then (placeless a)) reads.alike ∙ sym (placeless-then a b);
    }

-- ---- parts

-- parts after another one: no text, or a line feed and a text with the content of the parts
pub data AreRead (says : FileReading) : List ℕ → Type 0 where
  nothing : says ≡ empty_reading → AreRead says []
  more : {text : List ℕ} → IsReadPlaceless says text → AreRead says (10 ∷ text)

-- a text with what follows it
text_then : (says rest : FileReading) (text following : List ℕ) → IsReadPlaceless says text → AreRead rest following
    → IsReadPlaceless (then says rest) (text ++ following)
text_then says rest text following read (AreRead.nothing none) =
    subst (IsReadPlaceless (then says rest)) (sym (append-nil text))
    (subst (λ r. IsReadPlaceless r text) (sym (ap (then says) none ∙ then-empty_reading says)) read)
text_then says rest text following read (AreRead.more {text = second} reads) = feed_between text second says rest read reads

-- a part after others: its white space, its text, and what follows
part_then : (says : FileReading) (space text : List ℕ) → IsLineEnd space → IsReadPlaceless says text → AreRead says (space ++ text)
part_then says space text (IsLineEnd.feed {rest = rest} white) read = AreRead.more (white_before rest text says white read)

-- the white space, the text and what follows, in another grouping
grouped : (p : FilePart) (ps : List FilePart) (end : List ℕ) → text_of_parts (p ∷ ps) end ≡ p.space ++ (p.text ++ text_of_parts ps end)
grouped p ps end =
    append_assoc (p.space ++ p.text) (flat_map (λ q. q.space ++ q.text) ps) end ∙ append_assoc p.space p.text (text_of_parts ps end)

next_parts : (ps : List FilePart) (end : List ℕ) → AllByRecursion IsNextPart ps → IsFileEnd end
    → AreRead (parts_together ps) (text_of_parts ps end)
next_parts [] end all (inl none) = subst (AreRead empty_reading) (sym none) (AreRead.nothing refl)
next_parts [] end all (inr (IsLineEnd.feed {rest = rest} white)) = AreRead.more (white_read rest white)
next_parts (p ∷ ps) end all is_end =
    subst (AreRead (then p.says (parts_together ps))) (sym (grouped p ps end))
    (part_then (then p.says (parts_together ps)) p.space (p.text ++ text_of_parts ps end) all.0.space
    (text_then p.says (parts_together ps) p.text (text_of_parts ps end) all.0.read (next_parts ps end all.1 is_end)))

pub parts_are_read : (ps : List FilePart) (end : List ℕ) → AreParts ps end → IsReadPlaceless (parts_together ps) (text_of_parts ps end)
parts_are_read [] end (AreParts.none white) = white_read end white
parts_are_read (p ∷ ps) end (AreParts.some white read all is_end) =
    subst (IsReadPlaceless (then p.says (parts_together ps))) (sym (grouped p ps end))
    (white_before p.space (p.text ++ text_of_parts ps end) (then p.says (parts_together ps)) white
    (text_then p.says (parts_together ps) p.text (text_of_parts ps end) read (next_parts ps end all is_end)))
