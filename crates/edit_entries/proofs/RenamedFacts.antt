-- An entry with another key.
use Rattle.std.proofs.Common.{◌≡◌, inr, ℕ, suc, ◌+◌, ◌-◌, ◌<◌, ◌≤◌, Bool, true, false, cond, Option, None, List, [], ◌∷◌, ◌++◌, length, take, drop, refl, sym, ap, ◌∙◌, subst, arith, Some, length-take}
use Rattle.std.specs.Prelude.{slice_get}
use Rattle.std.specs.Char.{is_whitespace}
use Rattle.std.specs.Str.{IsCharBoundary}
use Rattle.std.proofs.lemmas.List.{take_at}
use Rattle.std.proofs.lemmas.Str.{len_utf8_bounds}
use Rattle.bib_text.specs.Places.{Place, place, CharAt, Run, between}
use Rattle.bib_text.specs.Places.Run.{stop, step}
use Rattle.bib_text.proofs.PlaceFacts.{Ahead, ahead_char, ahead_run, ahead_then, stops_at, char_within}
use Rattle.bib_syntax.specs.Characters.{is_key}
use Rattle.bib_syntax.specs.Reading.{Part, part, EntryReading}
use Rattle.bib_syntax.proofs.FieldFacts.{ahead_fields, ahead_gap, ahead_identifier}
use Rattle.bib_syntax.proofs.FileFacts.{ahead_head}
use Rattle.edit_entries.specs.Edits.{Edit, edited, moved_place, moved_entry}
use Rattle.edit_entries.specs.Documents.{CanBeKey, Document, IsDocument, entry_renamed, first_position, next_index, text_at}
use Rattle.edit_entries.specs.Placed.{IsKeyPlaced}
use Rattle.bib_text.proofs.BoundaryFacts.{Border, char_boundary}
use Rattle.edit_entries.proofs.EditFacts.{Fits, before_frame, after_frame, piece_frame, moved_after, moved_before, new_bytes, zone_before, zone_after, zone_piece}
use Rattle.edit_entries.proofs.ZoneFacts.{Inside, char_there, inside, inside_between, longest_there, run_there, stops_there, there}
use Rattle.edit_entries.proofs.GrammarFacts.{below_char, fields_there, gap_there, head_until}
use Rattle.edit_entries.proofs.SplitFacts.{EntryBlock, ahead_file_before, block_of, split_file}
use Rattle.edit_entries.proofs.EntryFacts.{entry_edited_read, goes}
use Rattle.edit_entries.proofs.ValueFacts.{run_stands}
use Rattle.bib_syntax.proofs.LawFacts.{key_dark}

-- a key is at a byte offset: it has at least one character, and only characters of keys
record KeyRead (whole key : List ℕ) (at : ℕ) : Type 0 where
  char : ℕ
  next : Place
  here : CharAt (place whole at) char next
  dark : is_whitespace char ≡ false
  run : Run is_key (place whole at) (place whole (at + length key))
  bytes : between (place whole at) (place whole (at + length key)) ≡ key

first_of : {test : ℕ → Bool} {u v : Place} → Run test u v → u.at < v.at → (c : ℕ) × (w : Place) × CharAt u c w × (test c ≡ true) × Ahead w v
first_of {u = u} stop some = absurd (omega arith)
first_of (step char passes others) some = (_, _, char, passes, ahead_run others)

key_read : (whole rest key : List ℕ) (at : ℕ) → CanBeKey key → drop at whole ≡ key ++ rest
    → Border (place whole (at + length key)) → KeyRead whole key at
key_read whole rest key at can here border =
    let z = zone_piece key whole rest at here border in
    let first : Inside (piece_frame key whole at) (place key 0) =
    record { text = refl; start = omega arith; end = omega arith; moved = omega arith } in
    let last : Inside (piece_frame key whole at) (place key (length key)) =
    record { text = refl; start = omega arith; end = omega arith; moved = omega arith } in
    let one = first_of can.run can.some in
    let second = inside_between z first last (ahead_char one.2) one.4 in
    let from : 0 + at ≡ at = omega arith in
    let to : length key + at ≡ at + length key = omega arith in
    let size : at + length key - at ≡ length key = omega arith in
    record {
      char = one.0;
      next = there (piece_frame key whole at) one.1;
      here = subst (λ n. CharAt (place whole n) one.0 (there (piece_frame key whole at) one.1)) from (char_there z first second one.2);
      dark = key_dark one.0 one.3;
      run =
          subst (λ n. Run is_key (place whole n) (place whole (at + length key))) from
          (subst (λ n. Run is_key (place whole (0 + at)) (place whole n)) to (run_there z first last can.run));
      bytes = ap (λ n. take n (drop at whole)) size ∙ ap (take (length key)) here ∙ take_at key rest (length key) refl;
    }

pub entry_renamed_read : (d : Document) (k : ℕ) (e : EntryReading) (key : List ℕ) → IsDocument d
    → slice_get d.says.entries k ≡ Some e → e.key.start < e.key.end → CanBeKey key
    → IsDocument (entry_renamed d k e key)
entry_renamed_read d k e key read here some can =
    let s = split_file k e read here in
    let b = s.block in
    let edit : Edit = record { start = e.key.start; end = e.key.end; bytes = key } in
    let move = moved_place edit in
    let new : List ℕ = edited edit d.text in
    let to_start = ahead_file_before s.first in
    let to_key = ahead_head b.head in
    let at_key = ahead_then to_start to_key in
    let at_end = ahead_then at_key (ahead_run b.key.run) in
    let at_before = ahead_then at_end (ahead_run b.white.run) in
    let at_comma = ahead_then at_before (ahead_char b.comma) in
    let at_fields = ahead_then at_comma (ahead_gap b.gap) in
    let at_brace = ahead_then at_fields (ahead_fields b.fields) in
    let at_close = ahead_then at_brace (ahead_char b.closes) in
    let start_is : e.key.start ≡ b.inside.at = ap (λ p. p.start) b.key_is in
    let end_is : e.key.end ≡ b.key_end.at = ap (λ p. p.end) b.key_is in
    let closing = char_within b.closes in
    let text_size : length s.end.text ≡ length d.text = ap length at_close.text in
    let to_close : b.key_end.at ≤ s.end.at =
    omega (
      arith,
      (ahead_run b.white.run).at,
      (ahead_char b.comma).at,
      (ahead_gap b.gap).at,
      (ahead_fields b.fields).at,
      (ahead_char b.closes).at,
    ) in
    let within : edit.end ≤ length d.text = omega (arith, end_is) in
    let z2 = zone_after edit d.text (omega (arith, some)) within in
    let je : Inside (after_frame edit d.text) b.key_end = inside z2 at_end.text (omega (arith, end_is)) (omega arith) in
    let jd : Inside (after_frame edit d.text) s.end = inside z2 at_close.text (omega (arith, end_is)) (omega arith) in
    let jb =
    inside_between z2 je jd (ahead_run b.white.run)
    (ahead_then (ahead_char b.comma)
    (ahead_then (ahead_gap b.gap) (ahead_then (ahead_fields b.fields) (ahead_char b.closes)))) in
    let jc =
    inside_between z2 jb jd (ahead_char b.comma)
    (ahead_then (ahead_gap b.gap) (ahead_then (ahead_fields b.fields) (ahead_char b.closes))) in
    let jf = inside_between z2 jc jd (ahead_gap b.gap) (ahead_then (ahead_fields b.fields) (ahead_char b.closes)) in
    let jz = inside_between z2 jf jd (ahead_fields b.fields) (ahead_char b.closes) in
    let brace_below = below_char jd b.closes in
    let comma_below = below_char jc b.comma in
    let stands = run_stands b.white.run b.comma in
    let jn : Inside (after_frame edit d.text) stands.next =
    inside z2 (stands.here.same ∙ at_end.text) (omega (arith, (ahead_char stands.here).at, end_is))
    (omega (arith, char_within stands.here, ap length stands.here.same, ap length at_end.text)) in
    let key_end_is : move b.key_end.at ≡ edit.start + length key =
    omega (arith, moved_after edit b.key_end.at (omega (arith, end_is)), end_is) in
    let end_border : Border (place new (edit.start + length key)) =
    subst (λ n. Border (place new n)) key_end_is
    (inr (stands.char, there (after_frame edit d.text) stands.next, char_there z2 je jn stands.here)) in
    let k' = key_read new (drop edit.end d.text) key edit.start can (new_bytes edit d.text (omega (arith, some, within))) end_border in
    let fits : Fits edit d.text = record { ordered = omega (arith, some); within = within; border = inr (k'.char, k'.next, k'.here) } in
    let z1 = zone_before edit d.text fits in
    let iu : Inside (before_frame edit d.text) s.start =
    record {
      text = to_start.text;
      start = omega arith;
      end = omega (arith, to_key.at, start_is);
      moved = ap (λ n. n + 0) (moved_before edit s.start.at (omega (arith, to_key.at, start_is, some)));
    } in
    let ia : Inside (before_frame edit d.text) b.inside =
    record {
      text = at_key.text;
      start = omega arith;
      end = omega (arith, start_is);
      moved = ap (λ n. n + 0) (moved_before edit b.inside.at (omega (arith, start_is, some)));
    } in
    let inside_is : move b.inside.at ≡ edit.start = moved_before edit b.inside.at (omega (arith, start_is, some)) ∙ sym start_is in
    let key_here : CharAt (goes edit d.text b.inside) k'.char k'.next =
    subst (λ n. CharAt (place new n) k'.char k'.next) (sym inside_is) k'.here in
    let key_run : Run is_key (goes edit d.text b.inside) (goes edit d.text b.key_end) =
    subst (λ n. Run is_key (place new n) (goes edit d.text b.key_end)) (sym inside_is)
    (subst (λ n. Run is_key (place new edit.start) (place new n)) (sym key_end_is) k'.run) in
    let moved_start : move e.key.start ≡ edit.start = moved_before edit e.key.start some in
    let build : List ℕ → ℕ → ℕ → Part = λ (t : List ℕ) (m n : ℕ). record { text = t; start = m; end = n } in
    let key_part : text_at (move e.key.start) key ≡ part (goes edit d.text b.inside) (goes edit d.text b.key_end) =
    ap (λ t. build t (move e.key.start) (move e.key.start + length key))
    (sym k'.bytes ∙ ap (λ n. between (place new n) (place new (edit.start + length key))) (sym inside_is)
    ∙ ap (λ n. between (goes edit d.text b.inside) (place new n)) (sym key_end_is))
    ∙ ap
    (λ m. build (between (goes edit d.text b.inside) (goes edit d.text b.key_end)) m (move e.key.start + length key))
    (moved_start ∙ sym inside_is)
    ∙ ap (build (between (goes edit d.text b.inside) (goes edit d.text b.key_end)) (move b.inside.at))
    (ap (λ m. m + length key) moved_start ∙ sym key_end_is) in
    let after_sign =
    ahead_then (ahead_identifier b.head.name)
    (ahead_then (ahead_run b.head.white.run)
    (ahead_then (ahead_char b.head.opens) (ahead_run b.head.white'.run))) in
    let e' : EntryReading = record (moved_entry move e) { key = text_at (move e.key.start) key } in
    let block : EntryBlock (goes edit d.text s.start) e' (goes edit d.text s.end) = record {
      inside = goes edit d.text b.inside;
      key_end = goes edit d.text b.key_end;
      before_comma = goes edit d.text b.before_comma;
      after_comma = goes edit d.text b.after_comma;
      fields_start = goes edit d.text b.fields_start;
      brace = goes edit d.text b.brace;
      head = head_until z1 iu ia (stops_at is_whitespace key_here k'.dark) b.head;
      is_entry = b.is_entry;
      key = record { run = key_run; stops = stops_there is_key z2 je (omega (arith, (ahead_run b.white.run).at, comma_below)) b.key.stops };
      white = longest_there z2 je jb comma_below b.white;
      comma = char_there z2 jb jc b.comma;
      gap = gap_there z2 jc jf (omega (arith, (ahead_fields b.fields).at, brace_below)) b.gap;
      fields = fields_there z2 jf jz brace_below b.fields;
      closes = char_there z2 jz jd b.closes;
      key_is = key_part;
      starts = ap move b.starts;
      ends = ap move b.ends;
    } in
    entry_edited_read d edit k e e' fits s
    (omega (arith, start_is, b.head.sign.next, after_sign.at, (len_utf8_bounds 64).0)) (omega (arith, end_is))
    (block_of block)

-- the key of an entry may be cut out of the text
pub key_placed : (d : Document) (k : ℕ) (e : EntryReading) → IsDocument d → slice_get d.says.entries k ≡ Some e → IsKeyPlaced d.text e
key_placed d k e read here =
    let s = split_file k e read here in
    let b = s.block in
    let at_key = ahead_then (ahead_file_before s.first) (ahead_head b.head) in
    let over = ahead_run b.key.run in
    let at_end = ahead_then at_key over in
    let start_is : e.key.start ≡ b.inside.at = ap (λ p. p.start) b.key_is in
    let end_is : e.key.end ≡ b.key_end.at = ap (λ p. p.end) b.key_is in
    let last = run_stands b.white.run b.comma in
    let first = run_stands b.key.run last.here in
    record {
      ordered = omega (arith, start_is, end_is, over.at);
      start =
          subst (λ n. IsCharBoundary d.text n) (sym start_is)
          (subst (λ t. IsCharBoundary t b.inside.at) at_key.text (char_boundary first.here));
      end =
          subst (λ n. IsCharBoundary d.text n) (sym end_is)
          (subst (λ t. IsCharBoundary t b.key_end.at) at_end.text (char_boundary last.here));
    }

-- if the text of a key isn't empty, neither is its span
pub key_some : (d : Document) (k : ℕ) (e : EntryReading) → IsDocument d → slice_get d.says.entries k ≡ Some e
    → 0 < length e.key.text → e.key.start < e.key.end
key_some d k e read here some =
    let b = (split_file k e read here).block in
    let bytes : List ℕ = drop b.inside.at b.inside.text in
    let size : length e.key.text ≡ length (take (b.key_end.at - b.inside.at) bytes) = ap (λ p. length p.text) b.key_is in
    omega (arith, size, length-take (b.key_end.at - b.inside.at) bytes, ap (λ p. p.start) b.key_is, ap (λ p. p.end) b.key_is)

-- if the test is passed at the first index in the rest of a list, it is passed at the first index in the list
first_step : (test : EntryReading → Bool) (x : EntryReading) (xs : List EntryReading) (k : ℕ) (e : EntryReading)
    → ((i : ℕ) → first_position test xs ≡ Some i → slice_get xs i ≡ Some e → test e ≡ true)
    → first_position test (x ∷ xs) ≡ Some k → slice_get (x ∷ xs) k ≡ Some e → test e ≡ true
first_step test x xs k e rest first here = by_case (test x) refl first
  where
    next : (i : Option ℕ) → first_position test xs ≡ i → next_index i ≡ Some k → test e ≡ true
    next None is found = absurd (cc)
    next (Some i) is found =
        let same : suc i ≡ k = cc in
        rest i is (subst (λ n. slice_get (x ∷ xs) n ≡ Some e) (sym same) here)

    by_case : (b : Bool) → test x ≡ b → cond b (Some 0) (next_index (first_position test xs)) ≡ Some k → test e ≡ true
    by_case true is found =
        let none : 0 ≡ k = cc in
        let same : Some x ≡ Some e = subst (λ n. slice_get (x ∷ xs) n ≡ Some e) (sym none) here in
        let head : x ≡ e = cc in
        ap test (sym head) ∙ is
    by_case false is found = next (first_position test xs) refl found

pub first_passes : (test : EntryReading → Bool) (es : List EntryReading) (k : ℕ) (e : EntryReading)
    → first_position test es ≡ Some k → slice_get es k ≡ Some e → test e ≡ true
first_passes test [] k e first here = absurd (cc)
first_passes test (x ∷ xs) k e first here = first_step test x xs k e (λ i is found. first_passes test xs i e is found) first here
