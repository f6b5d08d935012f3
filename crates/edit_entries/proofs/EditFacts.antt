-- The text before and after the stretch of an edit is in the edited text.
use Rattle.std.proofs.Common.{◌≡◌, ℕ, ◌+◌, ◌-◌, ◌<◌, ◌≤◌, List, ◌∷◌, ◌++◌, length, take, drop, refl, sym, ap, ◌∙◌, subst, arith, length-append, length-drop, append_assoc}
use Rattle.std.specs.Char.{len_utf8}
use Rattle.std.proofs.lemmas.List.{take_all, take_at, drop_at, drop-drop, length-take-le}
use Rattle.std.proofs.lemmas.Str.{encode_ascii, len_utf8_ascii}
use Rattle.std.proofs.lemmas.Bool.Decides.{nat_tests}
use Rattle.bib_text.specs.Places.{place, CharAt}
use Rattle.bib_text.proofs.PlaceFacts.{char_here, char_left}
use Rattle.edit_entries.specs.Edits.{Edit, edited, moved_place}
use Rattle.bib_text.proofs.BoundaryFacts.{Border, not_over}
use Rattle.edit_entries.proofs.ZoneFacts.{Frame, Zone}

-- the stretch of an edit is in the text. In the new text, a character or the end of the text is at its start.
pub record Fits (edit : Edit) (text : List ℕ) : Type 0 where
  pub ordered : edit.start ≤ edit.end
  pub within : edit.end ≤ length text
  pub border : Border (place (edited edit text) edit.start)

abbrev pub before_frame : Edit → List ℕ → Frame
before_frame edit text = record { old = text; new = edited edit text; move = moved_place edit; from = 0; to = 0; end = edit.start }

abbrev pub after_frame : Edit → List ℕ → Frame
after_frame edit text = record {
  old = text;
  new = edited edit text;
  move = moved_place edit;
  from = edit.end;
  to = edit.start + length edit.bytes;
  end = length text + 1;
}

pub moved_before : (edit : Edit) (at : ℕ) → at < edit.end → moved_place edit at ≡ at
moved_before edit at before = grind (arith, nat_tests)

pub moved_after : (edit : Edit) (at : ℕ) → edit.end ≤ at → moved_place edit at + edit.end ≡ at + (edit.start + length edit.bytes)
moved_after edit at past = grind (arith, nat_tests)

-- the new text begins with the text before the edit
pub front : (start end : ℕ) (bytes text : List ℕ) → start ≤ length text
    → take start (take start text ++ bytes ++ drop end text) ≡ take start text
front start end bytes text within =
    ap (take start) (append_assoc (take start text) bytes (drop end text))
    ∙ take_at (take start text) (bytes ++ drop end text) start (length-take-le start text within)

pub rest : (start end : ℕ) (bytes text : List ℕ) → start ≤ length text
    → drop (start + length bytes) (take start text ++ bytes ++ drop end text) ≡ drop end text
rest start end bytes text within =
    drop_at (take start text ++ bytes) (drop end text) (start + length bytes)
    (length-append (take start text) bytes ∙ ap (λ n. n + length bytes) (length-take-le start text within))

pub length-edited : (edit : Edit) (text : List ℕ) → edit.start ≤ edit.end → edit.end ≤ length text
    → length (edited edit text) + edit.end ≡ length text + (edit.start + length edit.bytes)
length-edited edit text ordered within =
    let whole = length-append (take edit.start text ++ edit.bytes) (drop edit.end text) in
    let first = length-append (take edit.start text) edit.bytes in
    let front_size : length (take edit.start text) ≡ edit.start = length-take-le edit.start text (omega arith) in
    let rest_size = length-drop edit.end text in
    omega arith

pub zone_before : (edit : Edit) (text : List ℕ) → Fits edit text → Zone (before_frame edit text)
zone_before edit text fits =
    let within : edit.start ≤ length text = omega (arith, fits.ordered, fits.within) in
    let size : edit.start - 0 ≡ edit.start = omega arith in
    record {
      moves = λ n from below. ap (λ m. m + 0) (moved_before edit n (omega (arith, fits.ordered)));
      same =
          ap (λ n. take n text) size ∙ sym (front edit.start edit.end edit.bytes text within)
          ∙ ap (λ n. take n (edited edit text)) (sym size);
      cut = λ {u} {v} {c} same char below. omega (arith, not_over (edited edit text) edit.start fits.border same char (omega arith));
    }

pub zone_after : (edit : Edit) (text : List ℕ) → edit.start ≤ edit.end → edit.end ≤ length text → Zone (after_frame edit text)
zone_after edit text ordered within =
    let before : edit.start ≤ length text = omega arith in
    record {
      moves = λ n from below. moved_after edit n from;
      same = ap (take (length text + 1 - edit.end)) (sym (rest edit.start edit.end edit.bytes text before));
      cut = λ {u} {v} {c} same char below.
          let sizes : length u.text ≡ length (edited edit text) = ap length same in
          omega (arith, char_left char, char.next, length-edited edit text ordered within);
    }

-- ---- a text within another

abbrev pub piece_frame : List ℕ → List ℕ → ℕ → Frame
piece_frame piece whole at = record { old = piece; new = whole; move = λ n. n + at; from = 0; to = at; end = length piece }

pub zone_piece : (piece whole rest : List ℕ) (at : ℕ) → drop at whole ≡ piece ++ rest
    → Border (place whole (at + length piece)) → Zone (piece_frame piece whole at)
zone_piece piece whole rest at here border =
    let size : length piece - 0 ≡ length piece = omega arith in
    let same : take (length piece) piece ≡ take (length piece) (drop at whole) =
    take_all (length piece) piece (omega arith) ∙ sym (ap (take (length piece)) here ∙ take_at piece rest (length piece) refl) in
    record {
      moves = λ n from below. omega arith;
      same = ap (λ n. take n piece) size ∙ same ∙ ap (λ n. take n (drop at whole)) (sym size);
      cut = λ {u} {v} {c} same_text char below. omega (arith, not_over whole (at + length piece) border same_text char (omega arith));
    }

-- from the start of the edit on, the new text has the new bytes and then the text after the stretch
pub new_bytes : (edit : Edit) (text : List ℕ) → edit.start ≤ length text
    → drop edit.start (edited edit text) ≡ edit.bytes ++ drop edit.end text
new_bytes edit text within =
    ap (drop edit.start) (append_assoc (take edit.start text) edit.bytes (drop edit.end text))
    ∙ drop_at (take edit.start text) (edit.bytes ++ drop edit.end text) edit.start
    (length-take-le edit.start text within)

-- ---- known texts

-- an ASCII character that is the next byte is parsed there
pub ascii_stands : (text rest : List ℕ) (at c : ℕ) → c < 128 → drop at text ≡ c ∷ rest → CharAt (place text at) c (place text (at + 1))
ascii_stands text rest at c small here =
    let width : len_utf8 c ≡ 1 = len_utf8_ascii c small in
    subst (λ n. CharAt (place text at) c (place text (at + n))) width
    (char_here text rest at c (here ∙ ap (λ xs. xs ++ rest) (sym (encode_ascii c small))))

pub rest_stands : (text rest : List ℕ) (at c : ℕ) → drop at text ≡ c ∷ rest → drop (at + 1) text ≡ rest
rest_stands text rest at c here = sym (drop-drop 1 at text) ∙ ap (drop 1) here

pub text_stands : (text part rest : List ℕ) (at : ℕ) → drop at text ≡ part ++ rest → drop (at + length part) text ≡ rest
text_stands text part rest at here =
    sym (drop-drop (length part) at text) ∙ ap (drop (length part)) here ∙ drop_at part rest (length part) refl
