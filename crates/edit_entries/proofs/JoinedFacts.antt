-- A text after another one and a line end: the reading is both readings one after the other.
use Rattle.std.proofs.Common.{◌≡◌, inl, inr, ℕ, ◌+◌, ◌-◌, ◌<◌, ◌≤◌, Bool, true, false, cond, codes, List, [], ◌∷◌, ◌++◌, length, take, drop, map, refl, sym, ap, ◌∙◌, subst, arith, append_assoc, length-append}
use Rattle.std.specs.Prelude.{◌==◌, ◌&&◌, nat_lt, not}
use Rattle.std.specs.List.{before_first, ends_with, position_or_len}
use lib.Dec.{eqb}
use Rattle.std.proofs.lemmas.Bool.{cases_lt}
use Rattle.std.proofs.lemmas.List.{drop_at, take_all, take_at}
use Rattle.bib_text.specs.Places.{AtEnd, Place, place, CharAt}
use Rattle.bib_text.proofs.PlaceFacts.{ahead_char, ahead_run, char_left, no_char_at_end, run_push, stops_at, stops_at_end, char_within}
use Rattle.bib_syntax.specs.Reading.{Piece, FieldReading, EntryReading, FileReading, empty_reading, then}
use Rattle.bib_syntax.specs.Reading.Piece.{literal, abbreviation}
use Rattle.bib_syntax.specs.Grammar.{Block, File, IsRawReading, LineComment, longest}
use Rattle.bib_syntax.specs.Grammar.{File as file}
use Rattle.bib_syntax.proofs.FileFacts.{ahead_block, ahead_line_comment, then-then}
use Rattle.edit_entries.specs.Edits.{moved_entry, moved_field, moved_file, moved_piece}
use Rattle.edit_entries.specs.Documents.{Document, IsDocument, joined_documents}
use Rattle.edit_entries.proofs.EditFacts.{ascii_stands, rest_stands}
use Rattle.bib_text.proofs.BoundaryFacts.{not_over}
use Rattle.edit_entries.proofs.ZoneFacts.{Frame, Inside, Zone, char_there, inside_between, run_there, there}
use Rattle.edit_entries.proofs.GrammarFacts.{block_there, line_comment_there}
use Rattle.edit_entries.proofs.MovedFacts.{body_within, file_there, run_within}

-- ---- parts that aren't moved

same_pieces : (ps : List Piece) → map (moved_piece (λ n. n)) ps ≡ ps
same_pieces [] = refl
same_pieces (literal p ∷ ps) = ap (λ xs. literal p ∷ xs) (same_pieces ps)
same_pieces (abbreviation p ∷ ps) = ap (λ xs. abbreviation p ∷ xs) (same_pieces ps)

same_field : (f : FieldReading) → moved_field (λ n. n) f ≡ f
same_field f = ap (λ ps. let g : FieldReading = record f { value = record f.value { pieces = ps } } in g) (same_pieces f.value.pieces)

same_fields : (fs : List FieldReading) → map (moved_field (λ n. n)) fs ≡ fs
same_fields [] = refl
same_fields (f ∷ fs) = ap (λ g. g ∷ map (moved_field (λ n. n)) fs) (same_field f) ∙ ap (λ gs. f ∷ gs) (same_fields fs)

same_entries : (es : List EntryReading) → map (moved_entry (λ n. n)) es ≡ es
same_entries [] = refl
same_entries (e ∷ es) =
    ap (λ fs. let x : EntryReading = record e { fields = fs } in x ∷ map (moved_entry (λ n. n)) es)
    (same_fields e.fields) ∙ ap (λ xs. e ∷ xs) (same_entries es)

same_file : (says : FileReading) → moved_file (λ n. n) says ≡ says
same_file says =
    let build : List EntryReading → List FieldReading → FileReading =
    λ (es : List EntryReading) (fs : List FieldReading).
    record { preamble = says.preamble; entries = es; abbreviations = fs } in
    ap (λ es. build es (map (moved_field (λ n. n)) says.abbreviations)) (same_entries says.entries)
    ∙ ap (build says.entries) (same_fields says.abbreviations)

-- ---- the first text, up to the character after it

abbrev first_frame : ℕ → List ℕ → List ℕ → Frame
first_frame c first second = record { old = first; new = first ++ c ∷ second; move = λ n. n; from = 0; to = 0; end = length first }

joint_stands : (c : ℕ) (first second : List ℕ) → c < 128
    → CharAt (place (first ++ c ∷ second) (length first)) c (place (first ++ c ∷ second) (length first + 1))
joint_stands c first second small =
    ascii_stands (first ++ c ∷ second) second (length first) c small (drop_at first (c ∷ second) (length first) refl)

zone_first : (c : ℕ) (first second : List ℕ) → c < 128 → Zone (first_frame c first second)
zone_first c first second small =
    let size : length first - 0 ≡ length first = omega arith in
    let whole : take (length first) first ≡ take (length first) (first ++ c ∷ second) =
    take_all (length first) first (omega arith) ∙ sym (take_at first (c ∷ second) (length first) refl) in
    record {
      moves = λ n from below. omega arith;
      same = ap (λ n. take n first) size ∙ whole ∙ ap (λ n. take n (first ++ c ∷ second)) (sym size);
      cut = λ {u} {v} {c = x} same char below.
          omega (
            arith,
            not_over (first ++ c ∷ second) (length first)
                (inr (c, place (first ++ c ∷ second) (length first + 1), joint_stands c first second small)) same char
                (omega arith),
          );
    }

inside_first : (c : ℕ) (first second : List ℕ) {u : Place} → u.text ≡ first → u.at ≤ length u.text → Inside (first_frame c first second) u
inside_first c first second {u} same within = record {
  text = same;
  start = omega arith;
  end = omega (arith, ap length same);
  moved = omega arith;
}

comment_first : (first second : List ℕ) {u v : Place} → Inside (first_frame 10 first second) u
    → Inside (first_frame 10 first second) v → LineComment u v
    → LineComment (there (first_frame 10 first second) u) (there (first_frame 10 first second) v)
comment_first first second {u} {v} iu iv m =
    let z = zone_first 10 first second (omega arith) in
    elim (cases_lt v.at (length first)) [
      | inl before ↦ line_comment_there z iu iv before m
      | inr past ↦
          let last : v.at ≡ length first = omega (arith, iv.end) in
          let feed : CharAt (there (first_frame 10 first second) v) 10 (place (first ++ 10 ∷ second) (length first + 1)) =
          subst (λ n. CharAt (place (first ++ 10 ∷ second) n) 10 (place (first ++ 10 ∷ second) (length first + 1)))
          (sym last) (joint_stands 10 first second (omega arith)) in
          let a = inside_between z iu iv (ahead_char m.sign) (ahead_run m.line.run) in
          record {
            inside = there (first_frame 10 first second) m.inside;
            sign = char_there z iu a m.sign;
            line = record { run = run_there z a iv m.line.run; stops = stops_at (λ c. not (c == 10)) feed refl };
          }
    ]

file_first : (first second : List ℕ) (rest : FileReading) {u : Place} {says : FileReading}
    → Inside (first_frame 10 first second) u → File longest u says
    → File longest (place (first ++ 10 ∷ second) (length first + 1)) rest
    → File longest (there (first_frame 10 first second) u) (then says rest)
file_first first second rest {u} iu (file.end end) x =
    let last : u.at ≡ length first = end ∙ ap length iu.text in
    file.skipped
    (subst (λ n. CharAt (place (first ++ 10 ∷ second) n) 10 (place (first ++ 10 ∷ second) (length first + 1)))
    (sym last) (joint_stands 10 first second (omega arith))) refl x
file_first first second rest iu (file.skipped char passes others) x =
    let a = inside_first 10 first second (char.same ∙ iu.text) (char_within char) in
    file.skipped (char_there (zone_first 10 first second (omega arith)) iu a char) passes (file_first first second rest a others x)
file_first first second rest iu (file.line_comment m others) x =
    let a = inside_first 10 first second ((ahead_line_comment m).text ∙ iu.text) (run_within m.line.run (char_within m.sign)) in
    file.line_comment (comment_first first second iu a m) (file_first first second rest a others x)
file_first first second rest {u} iu (file.block {first = says} {rest = tells} b others) x =
    let a = inside_first 10 first second ((ahead_block b).text ∙ iu.text) (body_within b.body) in
    subst (λ r. File longest (there (first_frame 10 first second) u) r) (sym (then-then says tells rest))
    (file.block (stays (block_there (zone_first 10 first second (omega arith)) iu a b)) (file_first first second rest a others x))
  where
    stays : {u v : Place} {r : FileReading} → Block longest u (moved_file (λ n. n) r) v → Block longest u r v
    stays {u} {v} {r} b = subst (λ q. Block longest u q v) (same_file r) b

-- ---- the second text, after the line feed

abbrev second_frame : List ℕ → List ℕ → Frame
second_frame first second = record {
  old = second;
  new = first ++ 10 ∷ second;
  move = λ n. n + (length first + 1);
  from = 0;
  to = length first + 1;
  end = length second + 1;
}

zone_second : (first second : List ℕ) → Zone (second_frame first second)
zone_second first second =
    let tail : drop (length first + 1) (first ++ 10 ∷ second) ≡ second =
    rest_stands (first ++ 10 ∷ second) second (length first) 10 (drop_at first (10 ∷ second) (length first) refl) in
    record {
      moves = λ n from below. omega arith;
      same = ap (take (length second + 1 - 0)) (sym tail);
      cut = λ {u} {v} {c} same char below. omega (arith, char_left char, char.next, ap length same, length-append first (10 ∷ second));
    }

-- two texts with a line feed between them parse to both readings one after the other
feed_joined : (d more : Document) → IsDocument d → IsDocument more
    → IsRawReading (d.text ++ 10 ∷ more.text) (then d.says (moved_file (λ n. n + (length d.text + 1)) more.says))
feed_joined d more read reads =
    let start : Inside (second_frame d.text more.text) (place more.text 0) =
    record { text = refl; start = omega arith; end = omega arith; moved = omega arith } in
    let sizes : length more.text + (length d.text + 1) ≡ length (d.text ++ 10 ∷ more.text) + 0 =
    omega (arith, length-append d.text (10 ∷ more.text)) in
    let second = file_there (zone_second d.text more.text) refl sizes start reads in
    let from : 0 + (length d.text + 1) ≡ length d.text + 1 = omega arith in
    let second' =
    subst
    (λ n.
    File longest (place (d.text ++ 10 ∷ more.text) n) (moved_file (λ n. n + (length d.text + 1)) more.says))
    from second in
    file_first d.text more.text (moved_file (λ n. n + (length d.text + 1)) more.says)
    (inside_first 10 d.text more.text refl (omega arith)) read second'

-- ---- a carriage return after a text

-- the reading at the end of a text is empty
nothing_said : {u : Place} {says : FileReading} → AtEnd u → File longest u says → says ≡ empty_reading
nothing_said end (file.end again) = refl
nothing_said end (file.skipped char passes x) = absurd (no_char_at_end end char)
nothing_said end (file.line_comment m x) = absurd (no_char_at_end end m.sign)
nothing_said end (file.block b x) = absurd (no_char_at_end end b.head.sign)

module _ (first : List ℕ) where
  abbrev frame : Frame
  frame = first_frame 13 first []

  whole : Zone frame
  whole = zone_first 13 first [] (omega arith)

  return_stands : CharAt (place (first ++ 13 ∷ []) (length first)) 13 (place (first ++ 13 ∷ []) (length first + 1))
  return_stands = joint_stands 13 first [] (omega arith)

  last_end : AtEnd (place (first ++ 13 ∷ []) (length first + 1))
  last_end = sym (length-append first (13 ∷ []))

  return_at : (u : Place) → u.at ≡ length first → CharAt (there frame u) 13 (place (first ++ 13 ∷ []) (length first + 1))
  return_at u last =
      subst (λ n. CharAt (place (first ++ 13 ∷ []) n) 13 (place (first ++ 13 ∷ []) (length first + 1))) (sym last) return_stands

  file_return : {u : Place} {says : FileReading} → Inside frame u → File longest u says → File longest (there frame u) says
  file_return {u} iu (file.end end) = file.skipped (return_at u (end ∙ ap length iu.text)) refl (file.end last_end)
  file_return iu (file.skipped char passes others) =
      let a = inside_first 13 first [] (char.same ∙ iu.text) (char_within char) in
      file.skipped (char_there whole iu a char) passes (file_return a others)
  file_return {u} {says} iu (file.line_comment {v = v} m others) =
      let same = (ahead_line_comment m).text ∙ iu.text in
      let a = inside_first 13 first [] same (run_within m.line.run (char_within m.sign)) in
      elim (cases_lt v.at (length first)) [
        | inl before ↦ file.line_comment (line_comment_there whole iu a before m) (file_return a others)
        | inr past ↦
            let last : v.at ≡ length first = omega (arith, a.end) in
            let b = inside_between whole iu a (ahead_char m.sign) (ahead_run m.line.run) in
            subst (λ r. File longest (there frame u) r) (sym (nothing_said (last ∙ sym (ap length same)) others))
            (file.line_comment
            (record {
              inside = there frame m.inside;
              sign = char_there whole iu b m.sign;
              line = record {
                run = run_push (run_there whole b a m.line.run) (return_at v last) refl;
                stops = stops_at_end (λ c. not (c == 10)) last_end;
              };
            }) (file.end last_end))
      ]
  file_return {u} iu (file.block {first = says} {rest = tells} b others) =
      let a = inside_first 13 first [] ((ahead_block b).text ∙ iu.text) (body_within b.body) in
      file.block (stays (block_there whole iu a b)) (file_return a others)
    where
      stays : {u v : Place} {r : FileReading} → Block longest u (moved_file (λ n. n) r) v → Block longest u r v
      stays {u} {v} {r} b = subst (λ q. Block longest u q v) (same_file r) b

-- ---- the whole

-- a line end: a line feed, or a carriage return and a line feed
abbrev pub end_by : Bool → List ℕ
end_by with_return = cond with_return (codes "\r\n") (codes "\n")

-- two documents with the text `end` between them
abbrev pub joined_by : List ℕ → Document → Document → Document
joined_by end d more = record {
  text = d.text ++ (end ++ more.text);
  says = then d.says (moved_file (λ n. n + (length d.text + length end)) more.says);
}

pub joined_by_read : (with_return : Bool) (d more : Document) → IsDocument d → IsDocument more
    → IsDocument (joined_by (end_by with_return) d more)
joined_by_read false d more read reads = feed_joined d more read reads
joined_by_read true d more read reads =
    let returned : Document = record { text = d.text ++ 13 ∷ []; says = d.says } in
    let size : length (d.text ++ 13 ∷ []) + 1 ≡ length d.text + 2 = omega (arith, length-append d.text (13 ∷ [])) in
    let read' = file_return d.text (inside_first 13 d.text [] refl (omega arith)) read in
    let both = feed_joined returned more read' reads in
    subst (λ m. IsRawReading (d.text ++ (13 ∷ 10 ∷ more.text)) (then d.says (moved_file (λ n. n + m) more.says))) size
    (subst (λ t. IsRawReading t (then d.says (moved_file (λ n. n + (length (d.text ++ 13 ∷ []) + 1)) more.says)))
    (append_assoc d.text (13 ∷ []) (10 ∷ more.text)) both)

pub documents_joined : (d more : Document) → IsDocument d → IsDocument more → IsDocument (joined_documents d more)
documents_joined d more read reads =
    joined_by_read
    (nat_lt (position_or_len (λ b. eqb b 10) d.text) (length d.text)
    && ends_with eqb (before_first (λ b. eqb b 10) d.text) (codes "\r")) d more read reads
