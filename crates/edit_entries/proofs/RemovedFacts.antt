-- A text without one of its entries.
use Rattle.std.proofs.Common.{◌≡◌, inl, inr, ℕ, suc, ◌+◌, ◌<◌, ◌≤◌, true, List, [], ◌∷◌, ◌++◌, length, drop, map, refl, sym, ap, ◌∙◌, subst, arith, Some, length-append, append_assoc}
use Rattle.std.specs.Prelude.{slice_get}
use Rattle.std.specs.Char.{is_whitespace}
use Rattle.std.specs.List.{remove}
use Rattle.std.specs.Str.{IsCharBoundary}
use Rattle.std.proofs.lemmas.Bool.Decides.{nat_tests}
use Rattle.std.proofs.lemmas.List.{length-map, map-append, take_at, drop_at}
use Rattle.std.proofs.lemmas.Str.{len_utf8_bounds, IsCharBoundary-end}
use Rattle.bib_text.specs.Places.{Place, place, Longest, Run}
use Rattle.bib_text.specs.Places.Run.{stop, step}
use Rattle.bib_text.proofs.PlaceFacts.{ahead_run, ahead_then, char_left, same_place, char_within}
use Rattle.bib_syntax.specs.Reading.{EntryReading, FieldReading, FileReading, then}
use Rattle.bib_syntax.specs.Kept.{entry_alone}
use Rattle.bib_syntax.specs.Grammar.{File, longest}
use Rattle.bib_syntax.specs.Grammar.{File as file}
use Rattle.bib_syntax.proofs.FieldFacts.{ahead_fields}
use Rattle.bib_syntax.proofs.FileFacts.{is_skipped, skipped_rest}
use Rattle.edit_entries.specs.Edits.{Edit, edited, moved_place, moved_entry, moved_field, moved_file}
use Rattle.edit_entries.specs.Documents.{Document, EntryRemoved, HasEntry, IsEdited, IsDocument, entry_removed}
use Rattle.edit_entries.specs.Placed.{IsEntryPlaced}
use Rattle.bib_text.proofs.BoundaryFacts.{Border, char_boundary}
use Rattle.edit_entries.proofs.EditFacts.{Fits, before_frame, after_frame, length-edited, moved_after, moved_before, zone_before, zone_after}
use Rattle.edit_entries.proofs.ZoneFacts.{Inside, inside}
use Rattle.edit_entries.proofs.SplitFacts.{ahead_file_before, joined_file, split_file}
use Rattle.edit_entries.proofs.MovedFacts.{file_before_there, file_there, run_within}
use Rattle.edit_entries.proofs.EntryFacts.{ahead_entry, ahead_to_fields, goes}

-- white space between blocks is skipped
white_skipped : (c : ℕ) → is_whitespace c ≡ true → is_skipped c ≡ true
white_skipped c white = grind (arith, nat_tests)

pub after_run : {u v : Place} {says : FileReading} → Run is_whitespace u v → File longest u says → File longest v says
after_run stop x = x
after_run (step {c = c} char white others) x = after_run others (skipped_rest char (white_skipped c white) x)

-- at the start of a file there is a character or the end of the text
pub file_border : {u : Place} {says : FileReading} → File longest u says → Border u
file_border (file.end end) = inl end
file_border (file.skipped char passes x) = inr (_, _, char)
file_border (file.line_comment m x) = inr (_, _, m.sign)
file_border (file.block b x) = inr (_, _, b.head.sign)

-- a mapped list without one element is the mapped lists before and after it
pub taken_out : {A B : Type 0} (move : A → B) (before following : List A) (x : A) (k : ℕ) → length before ≡ k
    → remove (map move (before ++ x ∷ following)) k ≡ map move before ++ map move following
taken_out move before following x k index =
    let size : length (map move before) ≡ k = length-map before move ∙ index in
    let first = map move before in
    let rest = map move following in
    ap (λ l. remove l k) (map-append move before (x ∷ following))
    ∙ ap (λ l. l ++ drop (suc k) (first ++ move x ∷ rest)) (take_at first (move x ∷ rest) k size)
    ∙ ap (λ l. first ++ l)
    (ap (drop (suc k)) (sym (append_assoc first (move x ∷ []) rest))
    ∙ drop_at (first ++ move x ∷ []) rest (suc k) (omega (arith, length-append first (move x ∷ []), size)))

says_removed : (move : ℕ → ℕ) (before following : FileReading) (e : EntryReading) (k : ℕ) → length before.entries ≡ k
    → then (moved_file move before) (moved_file move following)
    ≡ record (moved_file move (then before (then (entry_alone e) following)))
    { entries = remove (map (moved_entry move) (then before (then (entry_alone e) following)).entries) k }
says_removed move before following e k index =
    let build : List EntryReading → List FieldReading → FileReading =
    λ (es : List EntryReading) (fs : List FieldReading).
    record {
      preamble = (then before (then (entry_alone e) following)).preamble;
      entries = es;
      abbreviations = fs;
    } in
    ap (λ es. build es (map (moved_field move) before.abbreviations ++ map (moved_field move) following.abbreviations))
    (sym (taken_out (moved_entry move) before.entries following.entries e k index))
    ∙ ap (build (remove (map (moved_entry move) (before.entries ++ e ∷ following.entries)) k))
    (sym (map-append (moved_field move) before.abbreviations following.abbreviations))

pub entry_removed_read : (d : Document) (k : ℕ) (e : EntryReading) (at : ℕ) → IsDocument d
    → slice_get d.says.entries k ≡ Some e → Longest is_whitespace (place d.text (e.end + 1)) (place d.text at)
    → IsDocument (entry_removed d k e at)
entry_removed_read d k e at read here white =
    let s = split_file k e read here in
    let b = s.block in
    let edit : Edit = record { start = e.start; end = at; bytes = [] } in
    let move = moved_place edit in
    let to_start = ahead_file_before s.first in
    let over = ahead_entry b in
    let to_end = ahead_then to_start over in
    let to_brace = ahead_then (ahead_to_fields b) (ahead_fields b.fields) in
    let closing : s.end.at ≡ e.end + 1 = omega (arith, b.closes.next, b.ends) in
    let end_is : s.end ≡ place d.text (e.end + 1) = same_place {u = s.end} {v = place d.text (e.end + 1)} to_end.text closing in
    let blank : Run is_whitespace s.end (place d.text at) = subst (λ p. Run is_whitespace p (place d.text at)) (sym end_is) white.run in
    let some : e.start < at = omega (arith, b.starts, over.at, closing, (ahead_run blank).at, to_brace.at, b.ends) in
    let within : at ≤ length d.text = run_within blank (char_within b.closes) in
    let z2 = zone_after edit d.text (omega (arith, some)) within in
    let jv : Inside (after_frame edit d.text) (place d.text at) = inside z2 refl (omega arith) (omega (arith, within)) in
    let sizes : length d.text + (edit.start + length edit.bytes) ≡ length (edited edit d.text) + edit.end =
    sym (length-edited edit d.text (omega (arith, some)) within) in
    let rest : File longest (goes edit d.text (place d.text at)) (moved_file move s.following) =
    file_there z2 refl sizes jv (after_run blank s.rest) in
    let there_is : move at ≡ e.start = omega (arith, moved_after edit at (omega arith)) in
    let start_is : move s.start.at ≡ e.start = moved_before edit s.start.at (omega (arith, some, b.starts)) ∙ sym b.starts in
    let rest' : File longest (place (edited edit d.text) e.start) (moved_file move s.following) =
    subst (λ n. File longest (place (edited edit d.text) n) (moved_file move s.following)) there_is rest in
    let fits : Fits edit d.text = record { ordered = omega (arith, some); within = within; border = file_border rest' } in
    let z1 = zone_before edit d.text fits in
    let first : Inside (before_frame edit d.text) (place d.text 0) =
    record {
      text = refl;
      start = omega arith;
      end = omega arith;
      moved = ap (λ n. n + 0) (moved_before edit 0 (omega (arith, some)));
    } in
    let start : Inside (before_frame edit d.text) s.start =
    record {
      text = to_start.text;
      start = omega arith;
      end = omega (arith, b.starts);
      moved = ap (λ n. n + 0) (moved_before edit s.start.at (omega (arith, some, b.starts)));
    } in
    let rest'' : File longest (goes edit d.text s.start) (moved_file move s.following) =
    subst (λ n. File longest (place (edited edit d.text) n) (moved_file move s.following)) (sym start_is) rest' in
    let whole = joined_file (file_before_there z1 first start b.head.sign s.first) rest'' in
    let zero : move 0 ≡ 0 = moved_before edit 0 (omega (arith, some)) in
    let said = says_removed move s.before s.following e k s.index in
    let named =
    ap
    (λ says.
    let r : FileReading =
    record (moved_file move says) { entries = remove (map (moved_entry move) says.entries) k } in
    r) (sym s.whole) in
    subst (λ n. File longest (place (edited edit d.text) n) (entry_removed d k e at).says) zero
    (subst (λ says. File longest (goes edit d.text (place d.text 0)) says) (said ∙ named) whole)

-- a text may be cut where a character begins, and at its end
border_boundary : {u : Place} → Border u → IsCharBoundary u.text u.at
border_boundary {u} (inl end) = subst (λ n. IsCharBoundary u.text n) (sym end) (IsCharBoundary-end u.text)
border_boundary (inr here) = char_boundary here.2

-- an entry of a document may be cut out of its text
pub entry_placed : (d : Document) (k : ℕ) (e : EntryReading) → IsDocument d → slice_get d.says.entries k ≡ Some e → IsEntryPlaced d.text e
entry_placed d k e read here =
    let s = split_file k e read here in
    let b = s.block in
    let to_start = ahead_file_before s.first in
    let to_brace = ahead_then (ahead_to_fields b) (ahead_fields b.fields) in
    let brace_text = (ahead_then to_start to_brace).text in
    let closing : s.end.at ≡ e.end + 1 = omega (arith, b.closes.next, b.ends) in
    record {
      ordered = omega (arith, b.starts, b.ends, to_brace.at);
      within = omega (arith, b.ends, char_left b.closes, ap length brace_text, (len_utf8_bounds 125).0);
      start =
          subst (λ n. IsCharBoundary d.text n) (sym b.starts)
          (subst (λ t. IsCharBoundary t s.start.at) to_start.text (char_boundary b.head.sign));
      end =
          subst (λ n. IsCharBoundary d.text n) closing
          (subst (λ t. IsCharBoundary t s.end.at) (b.closes.same ∙ brace_text)
          (border_boundary (file_border s.rest)));
    }

-- if a call returns the text without an entry and the white space after it, the entry is removed
pub entry_taken : {S : Type 0} (bytes : S → List ℕ) (d : Document) (key : List ℕ) (k : ℕ) (e : EntryReading) (new : S)
    → IsDocument d → HasEntry d key k e
    → (at : ℕ) × Longest is_whitespace (place d.text (e.end + 1)) (place d.text at)
    × (bytes new ≡ edited (record { start = e.start; end = at; bytes = [] }) d.text)
    → IsEdited (EntryRemoved d key) (bytes new)
entry_taken bytes d key k e new read entry text = record {
  document = entry_removed d k e text.0;
  outcome = EntryRemoved.removed entry text.1;
  is = text.2;
  read = entry_removed_read d k e text.0 read entry.here text.1;
}
