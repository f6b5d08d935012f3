-- The first and the last character of a value, and a text in braces in another text.
use Rattle.std.proofs.Common.{◌≡◌, inl, inr, ℕ, ◌+◌, ◌-◌, ◌<◌, ◌≤◌, Bool, false, List, [], ◌∷◌, ◌++◌, length, take, drop, refl, sym, ap, ◌∙◌, subst, arith, Some, append_assoc, length-append}
use Rattle.std.specs.Prelude.{slice_get}
use Rattle.std.specs.Char.{is_whitespace}
use Rattle.std.proofs.lemmas.Bool.{cases_lt}
use Rattle.std.proofs.lemmas.List.{take_all, take_at}
use Rattle.std.proofs.lemmas.Str.{len_utf8_bounds}
use Rattle.bib_text.specs.Braces.{IsParts, Parts}
use Rattle.bib_text.specs.Places.{Place, place, CharAt, Run, between}
use Rattle.bib_text.specs.Places.Run.{stop, step}
use Rattle.bib_text.proofs.BraceFacts.{ahead_parts}
use Rattle.bib_text.proofs.PlaceFacts.{Ahead, ahead_then, ahead_char, ahead_run, char_left, same_place, same_char, test_clash}
use Rattle.bib_syntax.specs.Reading.{Part, Piece, FieldReading, EntryReading}
use Rattle.bib_syntax.specs.Grammar.{Braced, Element, Elements, Gap, longest}
use Rattle.bib_syntax.specs.Grammar.{Number as number}
use Rattle.bib_syntax.specs.Grammar.{Element as element}
use Rattle.bib_syntax.specs.Grammar.{Elements as elements}
use Rattle.bib_syntax.specs.Grammar.{Gap as gap}
use Rattle.bib_syntax.proofs.FieldFacts.{ahead_identifier, ahead_quoted_parts, ahead_elements}
use Rattle.bib_syntax.proofs.LawFacts.{start_not_white}
use Rattle.edit_entries.specs.Placed.{IsPlaced}
use Rattle.std.specs.Str.{IsCharBoundary}
use Rattle.edit_entries.specs.Documents.{Document, IsDocument, in_braces, text_at}
use Rattle.bib_text.proofs.BoundaryFacts.{char_boundary}
use Rattle.bib_text.proofs.DigitFacts.{digit_dark}
use Rattle.edit_entries.proofs.EditFacts.{ascii_stands, piece_frame, rest_stands, text_stands, zone_piece}
use Rattle.edit_entries.proofs.ZoneFacts.{Frame, Inside, Zone, parts_there}
use Rattle.edit_entries.proofs.SplitFacts.{FieldsAfter, split_file, split_fields}
use Rattle.edit_entries.proofs.EntryFacts.{ahead_to_field}

-- ---- the start and the end of a value

-- a character that isn't white space is at `u` and ends at or before `v`
pub record Opens (u v : Place) : Type 0 where
  pub char : ℕ
  pub next : Place
  pub here : CharAt u char next
  pub dark : is_whitespace char ≡ false
  pub ahead : Ahead next v

element_opens : {u v : Place} {e : Piece} → Element longest u e v → Opens u v
element_opens (element.number (number.whole {c = c} char digit digits ends)) = record {
  char = c;
  next = _;
  here = char;
  dark = digit_dark c digit;
  ahead = ahead_run digits.run;
}
element_opens (element.number (number.broken {c = c} char digit digits point others ends)) =
    record {
      char = c;
      next = _;
      here = char;
      dark = digit_dark c digit;
      ahead = ahead_then (ahead_run digits.run) (ahead_then (ahead_char point) (ahead_run others.run));
    }
element_opens (element.named none i) = record {
  char = i.first;
  next = i.second;
  here = i.here;
  dark = start_not_white i.first i.starts;
  ahead = ahead_run i.rest.run;
}
element_opens (element.braced b) = record {
  char = 123;
  next = b.inside;
  here = b.opens;
  dark = refl;
  ahead = ahead_then (ahead_parts b.parts) (ahead_char b.closes);
}
element_opens (element.quoted q) = record {
  char = 34;
  next = q.inside;
  here = q.opens;
  dark = refl;
  ahead = ahead_then (ahead_quoted_parts q.parts) (ahead_char q.closes);
}

pub elements_opens : {u v : Place} {es : List Piece} → Elements longest u es v → Opens u v
elements_opens (elements.last e white ends) =
    let o = element_opens e in
    record { char = o.char; next = o.next; here = o.here; dark = o.dark; ahead = ahead_then o.ahead (ahead_run white.run) }
elements_opens (elements.more e white sign white' rest) =
    let o = element_opens e in
    record {
      char = o.char;
      next = o.next;
      here = o.here;
      dark = o.dark;
      ahead =
          ahead_then o.ahead
          (ahead_then (ahead_run white.run)
          (ahead_then (ahead_char sign) (ahead_then (ahead_run white'.run) (ahead_elements rest))));
    }

-- a run of white space that begins at another character is empty
dark_run : {u v w : Place} {c : ℕ} → Run is_whitespace u v → CharAt u c w → is_whitespace c ≡ false → u ≡ v
dark_run stop char dark = refl
dark_run (step first white rest) char dark =
    absurd (test_clash _ white (subst (λ d. is_whitespace d ≡ false) (same_char char first).0 dark))

-- ---- the character after a value

-- a character is at this place
pub record Stands (u : Place) : Type 0 where
  pub char : ℕ
  pub next : Place
  pub here : CharAt u char next

pub run_stands : {test : ℕ → Bool} {u v w : Place} {c : ℕ} → Run test u v → CharAt v c w → Stands u
run_stands stop char = record { char = _; next = _; here = char }
run_stands (step first passes rest) char = record { char = _; next = _; here = first }

pub gap_stands : {u v w : Place} {c : ℕ} → Gap longest u v → CharAt v c w → Stands u
gap_stands (gap.white white ends) char = run_stands white.run char
gap_stands (gap.line_comment white m white') char = run_stands white.run m.sign

after_stands : {u v w : Place} {fs : List FieldReading} → FieldsAfter u fs v → CharAt v 125 w → Stands u
after_stands (FieldsAfter.last gap) closes = gap_stands gap closes
after_stands (FieldsAfter.more gap comma gap' rest) closes = gap_stands gap comma

-- ---- a text in braces

length-in_braces : (value : List ℕ) → length (in_braces value) ≡ length value + 2
length-in_braces value = let size = length-append value (125 ∷ []) in omega arith

-- the bytes of a text with balanced braces, and of a brace before and after it, parse to this text in braces
pub braced_stands : (whole rest value : List ℕ) (at : ℕ) → IsParts value → drop at whole ≡ in_braces value ++ rest
    → Braced (place whole at) (text_at (at + 1) value) (place whole (at + length (in_braces value)))
braced_stands whole rest value at can here =
    let end : ℕ = at + 1 + length value in
    let opened : drop at whole ≡ 123 ∷ (value ++ (125 ∷ rest)) = here ∙ ap (λ t. 123 ∷ t) (append_assoc value (125 ∷ []) rest) in
    let inner : drop (at + 1) whole ≡ value ++ (125 ∷ rest) = rest_stands whole (value ++ (125 ∷ rest)) at 123 opened in
    let closed : drop end whole ≡ 125 ∷ rest = text_stands whole value (125 ∷ rest) (at + 1) inner in
    let closes : CharAt (place whole end) 125 (place whole (end + 1)) = ascii_stands whole rest end 125 (omega arith) closed in
    let z = zone_piece value whole (125 ∷ rest) (at + 1) inner (inr (125, place whole (end + 1), closes)) in
    let first : Inside (piece_frame value whole (at + 1)) (place value 0) =
    record { text = refl; start = omega arith; end = omega arith; moved = omega arith } in
    let last : Inside (piece_frame value whole (at + 1)) (place value (length value)) =
    record { text = refl; start = omega arith; end = omega arith; moved = omega arith } in
    let from : 0 + (at + 1) ≡ at + 1 = omega arith in
    let to : length value + (at + 1) ≡ end = omega arith in
    let over : end + 1 ≡ at + length (in_braces value) = omega (arith, length-in_braces value) in
    let size : end - (at + 1) ≡ length value = omega arith in
    let content : between (place whole (at + 1)) (place whole end) ≡ value =
    ap (λ n. take n (drop (at + 1) whole)) size ∙ ap (take (length value)) inner ∙ take_at value (125 ∷ rest) (length value) refl in
    record {
      inside = place whole (at + 1);
      following = place whole end;
      opens = ascii_stands whole (value ++ (125 ∷ rest)) at 123 (omega arith) opened;
      parts = subst (λ n. Parts (place whole n) (place whole end)) from
          (subst (λ n. Parts (place whole (0 + (at + 1))) (place whole n)) to (parts_there z first last can));
      closes = subst (λ n. CharAt (place whole end) 125 (place whole n)) over closes;
      reading = ap (λ t. let p : Part = record { text = t; start = at + 1; end = end } in p) (sym content);
    }

-- if the bytes of a text, and of a brace before and after it, parse to a text in braces, the text has balanced braces
pub parts_in_braces : (value : List ℕ) {p : Part}
    → Braced (place (in_braces value) 0) p (place (in_braces value) (length (in_braces value))) → IsParts value
parts_in_braces value b =
    let frame : Frame =
    record { old = in_braces value; new = value; move = λ n. n - 1; from = 1; to = 0; end = length value + 1 } in
    let size : length value + 1 - 1 ≡ length value = omega arith in
    let z : Zone frame = record {
      moves = λ n from below. omega arith;
      same =
          take_at value (125 ∷ []) (length value + 1 - 1) (sym size)
          ∙ sym (ap (λ n. take n value) size ∙ take_all (length value) value (omega arith));
      cut = λ {u} {v} {c} same char below. omega (arith, char_left char, char.next, ap length same);
    } in
    let ahead = ahead_parts b.parts in
    let first : Inside frame b.inside =
    record {
      text = b.opens.same;
      start = omega (arith, b.opens.next);
      end = omega (arith, b.opens.next);
      moved = omega (arith, b.opens.next);
    } in
    let last : Inside frame b.following = record {
      text = ahead.text ∙ b.opens.same;
      start = omega (arith, ahead.at, b.opens.next);
      end = omega (arith, b.closes.next, length-in_braces value);
      moved = omega (arith, b.closes.next, length-in_braces value);
    } in
    let from : b.inside.at - 1 ≡ 0 = omega (arith, b.opens.next) in
    let to : b.following.at - 1 ≡ length value = omega (arith, b.closes.next, length-in_braces value) in
    subst (λ n. Parts (place value n) (place value (length value))) from
    (subst (λ n. Parts (place value (b.inside.at - 1)) (place value n)) to (parts_there z first last b.parts))

-- ---- the stretch of a value

-- a value isn't empty without the white space after it
pub value_some : {edit_end : ℕ} {text : List ℕ} {u v : Place} {es : List Piece} → Elements longest u es v
    → u.text ≡ text → u.at ≤ edit_end → Run is_whitespace (place text edit_end) v → u.at < edit_end
value_some {edit_end} {text} {u} {v} all same ordered white =
    let opens = elements_opens all in
    elim (cases_lt u.at edit_end) [
      | inl before ↦ before
      | inr past ↦
          let here : place text edit_end ≡ u = same_place {u = place text edit_end} {v = u} (sym same) (omega arith) in
          let none : u ≡ v = dark_run (subst (λ p. Run is_whitespace p v) here white) opens.here opens.dark in
          absurd (omega (arith, ap (λ p. p.at) none, opens.ahead.at, opens.here.next, (len_utf8_bounds opens.char).0))
    ]

-- the value of a field may be cut out of its text
pub field_placed : (d : Document) (k : ℕ) (e : EntryReading) (j : ℕ) (f : FieldReading) → IsDocument d
    → slice_get d.says.entries k ≡ Some e → slice_get e.fields j ≡ Some f → IsPlaced d.text f
field_placed d k e j f read here there' =
    let s = split_file k e read here in
    let g = split_fields j f s.block.fields there' in
    let to_field = ahead_to_field s g in
    let to_value =
    ahead_then (ahead_identifier g.field.name)
    (ahead_then (ahead_run g.field.white.run)
    (ahead_then (ahead_char g.field.sign) (ahead_run g.field.white'.run))) in
    let over = ahead_elements g.field.elements in
    let value_stretch = (ahead_then to_field to_value).text in
    let opens = elements_opens g.field.elements in
    let closes = after_stands g.rest s.block.closes in
    record {
      ordered = omega (arith, g.field.starts, g.field.ends, over.at);
      start =
          subst (λ n. IsCharBoundary d.text n) (sym g.field.starts)
          (subst (λ t. IsCharBoundary t g.field.value_start.at) value_stretch (char_boundary opens.here));
      end =
          subst (λ n. IsCharBoundary d.text n) (sym g.field.ends)
          (subst (λ t. IsCharBoundary t g.end.at) (over.text ∙ value_stretch) (char_boundary closes.here));
    }
