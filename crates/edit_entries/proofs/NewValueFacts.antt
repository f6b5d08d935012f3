-- A field with another value: the bytes of the value parse to its pieces before each text that may follow a value.
use Rattle.std.proofs.Common.{◌≡◌, inr, ℕ, ◌+◌, ◌<◌, ◌≤◌, true, List, [], ◌∷◌, ◌++◌, length, drop, map, refl, sym, ap, ◌∙◌, subst, arith, Some}
use Rattle.std.specs.Prelude.{◌==◌, not, ◌&&◌, slice_get}
use Rattle.std.specs.Char.{is_whitespace, is_control}
use Rattle.std.proofs.lemmas.Bool.{and_right}
use Rattle.std.proofs.lemmas.Bool.Decides.{nat_tests}
use Rattle.std.proofs.lemmas.Str.{len_utf8_bounds}
use Rattle.bib_text.specs.Braces.{IsParts}
use Rattle.bib_text.specs.Places.{Place, place, CharAt, Run, Stops, Longest}
use Rattle.bib_text.specs.Places.Run.{stop, step}
use Rattle.bib_text.proofs.PlaceFacts.{ahead_then, ahead_char, ahead_run, same_place, stops_at, char_within}
use Rattle.bib_syntax.specs.Characters.{is_delimiter}
use Rattle.bib_syntax.specs.Reading.{Piece, FieldReading, EntryReading}
use Rattle.bib_syntax.specs.Reading.Piece.{literal}
use Rattle.bib_syntax.specs.Grammar.{Braced, Elements, Field, Gap, longest}
use Rattle.bib_syntax.specs.Grammar.{Element as element}
use Rattle.bib_syntax.specs.Grammar.{Elements as elements}
use Rattle.bib_syntax.specs.Grammar.{Gap as gap}
use Rattle.bib_syntax.proofs.FieldFacts.{ahead_identifier, ahead_field, elements_stop}
use Rattle.edit_entries.specs.Edits.{Edit, edited, moved_place, moved_field, moved_piece}
use Rattle.edit_entries.specs.Documents.{Document, IsDocument, field_edited, in_braces, text_at, value_changed, value_edit}
use Rattle.edit_entries.proofs.EditFacts.{Fits, before_frame, after_frame, moved_before, moved_after, zone_before, zone_after, new_bytes, text_stands}
use Rattle.edit_entries.proofs.ZoneFacts.{Inside, there, inside, inside_between, char_there, run_there, longest_there, stops_there}
use Rattle.edit_entries.proofs.GrammarFacts.{below_between, below_char, identifier_there}
use Rattle.edit_entries.proofs.SplitFacts.{FieldsAfter, split_file, split_fields}
use Rattle.edit_entries.proofs.EntryFacts.{ahead_to_field, goes, field_edited_read}
use Rattle.edit_entries.proofs.ValueFacts.{braced_stands, elements_opens, value_some}
use Rattle.edit_entries.proofs.ElementFacts.{Ending}
use Rattle.edit_entries.proofs.StandsFacts.{Stands}
use Rattle.edit_entries.specs.Changes.{NewValue}

-- ---- bytes that parse to pieces

-- the text between two places parses to these pieces, except for byte offsets
pub record AreRead (pieces : List Piece) (u w : Place) : Type 0 where
  pub reading : List Piece
  pub elements : Elements longest u reading w
  pub alike : map (moved_piece (λ n. 0)) reading ≡ map (moved_piece (λ n. 0)) pieces

-- the text between two places parses to pieces with this property
pub record ReadWith (known : Place → List Piece → Type 0) (u w : Place) : Type 0 where
  pub reading : List Piece
  pub elements : Elements longest u reading w
  pub is : known u reading

-- these bytes and the white space after them parse as `read` says. The next character must not continue a name or a number, and no `#` may
-- follow the white space
abbrev pub CanBeReadTo : (Place → Place → Type 0) → List ℕ → Type 0
CanBeReadTo read bytes =
    (u v w : Place) → Stands u bytes v → Ending v → Longest is_whitespace v w → Stops (λ c. c == 35) w → read u w

abbrev pub CanBeRead : NewValue → Type 0
CanBeRead new = CanBeReadTo (AreRead new.pieces) new.bytes

-- ---- the text after a value

white_ending : {u v : Place} {c : ℕ} → CharAt u c v → is_whitespace c ≡ true → Ending u
white_ending {u} {v} {c} char white = record {
  char = c;
  next = v;
  here = char;
  no_name = and_right (not (is_delimiter c) && not (is_control c)) (not (is_whitespace c)) (ap not white);
  no_digit = grind (arith, nat_tests);
  no_point = grind (arith, nat_tests);
}

pub run_ending : {u v : Place} → Run is_whitespace u v → Ending v → Ending u
run_ending stop ending = ending
run_ending (step char white rest) ending = white_ending char white

gap_ending : {u v : Place} → Gap longest u v → Ending v → Ending u
gap_ending (gap.white white ends) ending = run_ending white.run ending
gap_ending (gap.line_comment white m white') ending =
    run_ending white.run
    (record { char = 37; next = m.inside; here = m.sign; no_name = refl; no_digit = refl; no_point = refl })

pub after_ending : {u v w : Place} {fs : List FieldReading} → FieldsAfter u fs v → CharAt v 125 w → Ending u
after_ending (FieldsAfter.last g) closes =
    gap_ending g (record { char = 125; next = _; here = closes; no_name = refl; no_digit = refl; no_point = refl })
after_ending (FieldsAfter.more g comma g' rest) closes =
    gap_ending g (record { char = 44; next = _; here = comma; no_name = refl; no_digit = refl; no_point = refl })

-- ---- a field

-- a field with the stretch of its old value, from the start of the value up to the white space after it
record ValueStretch (edit : Edit) (text : List ℕ) (f : FieldReading) (u v : Place) : Type 0 where
  field : Field longest u f v
  same : u.text ≡ text
  start : edit.start ≡ field.value_start.at
  white : Run is_whitespace (place text edit.end) v
  following : Ending v
  some : edit.start < edit.end

-- after the edit of a field's value, the new bytes parse as `read` says
new_elements : (read : Place → Place → Type 0) (edit : Edit) (text bytes : List ℕ) (f : FieldReading) {u v : Place}
    → edit.bytes ≡ bytes → CanBeReadTo read bytes → ValueStretch edit text f u v
    → read (place (edited edit text) edit.start) (goes edit text v)
new_elements read edit text new f {u} {v} bytes can s =
    let white = ahead_run s.white in
    let following = s.following in
    let within : edit.end ≤ length text =
    omega (
      arith,
      white.at,
      char_within following.here,
      (ahead_char following.here).at,
      ap length following.here.same,
      ap length white.text,
    ) in
    let z2 = zone_after edit text (omega (arith, s.some)) within in
    let here : Inside (after_frame edit text) (place text edit.end) = inside z2 refl (omega arith) (omega arith) in
    let there' : Inside (after_frame edit text) v =
    inside z2 white.text white.at
    (omega (
      arith,
      char_within following.here,
      (ahead_char following.here).at,
      ap length following.here.same,
      ap length white.text,
    )) in
    let ending = run_ending s.white following in
    let next : Inside (after_frame edit text) ending.next =
    inside z2 ending.here.same (omega (arith, (ahead_char ending.here).at))
    (omega (arith, char_within ending.here, ap length ending.here.same)) in
    let is_end : moved_place edit edit.end ≡ edit.start + length edit.bytes = omega (arith, moved_after edit edit.end (omega arith)) in
    let from : Place = place (edited edit text) edit.start in
    let to : Place = goes edit text (place text edit.end) in
    let standing : drop edit.start (edited edit text) ≡ edit.bytes ++ drop edit.end text = new_bytes edit text (omega (arith, s.some)) in
    let stands : Stands from new to = record {
      same = refl;
      here =
          standing ∙ ap (λ xs. xs ++ drop edit.end text) bytes
          ∙ ap (λ xs. new ++ xs)
          (sym (text_stands (edited edit text) edit.bytes (drop edit.end text) edit.start standing)
          ∙ ap (λ n. drop n (edited edit text)) (sym is_end));
      next = is_end ∙ ap (λ xs. edit.start + length xs) bytes;
    } in
    let ending' : Ending to =
    record {
      char = ending.char;
      next = there (after_frame edit text) ending.next;
      here = char_there z2 here next ending.here;
      no_name = ending.no_name;
      no_digit = ending.no_digit;
      no_point = ending.no_point;
    } in
    let stops = elements_stop s.field.elements in
    let below : v.at < length text + 1 =
    omega (
      arith,
      char_within following.here,
      (ahead_char following.here).at,
      ap length following.here.same,
      ap length white.text,
    ) in
    let blank : Longest is_whitespace to (goes edit text v) =
    record { run = run_there z2 here there' s.white; stops = stops_there is_whitespace z2 there' below stops.0 } in
    can from to (goes edit text v) stands ending' blank (stops_there (λ c. c == 35) z2 there' below stops.1)

fits_value : (edit : Edit) (text : List ℕ) (f : FieldReading) (reading : List Piece) {u v : Place} → ValueStretch edit text f u v
    → Elements longest (place (edited edit text) edit.start) reading (goes edit text v) → Fits edit text
fits_value edit text f reading s all =
    let white = ahead_run s.white in
    let opens = elements_opens all in
    record {
      ordered = omega (arith, s.some);
      within =
          omega (
            arith,
            white.at,
            char_within s.following.here,
            (ahead_char s.following.here).at,
            ap length s.following.here.same,
            ap length white.text,
          );
      border = inr (opens.char, opens.next, opens.here);
    }

-- a field with these pieces as its value
abbrev pub with_pieces : List Piece → FieldReading → FieldReading
with_pieces pieces f = record f { value = record f.value { pieces = pieces } }

new_field : (edit : Edit) (text : List ℕ) (f : FieldReading) (reading : List Piece) {u v : Place} → ValueStretch edit text f u v
    → Elements longest (place (edited edit text) edit.start) reading (goes edit text v)
    → Field longest (goes edit text u) (with_pieces reading (moved_field (moved_place edit) f)) (goes edit text v)
new_field edit text f reading {u} {v} s all_new =
    let fits = fits_value edit text f reading s all_new in
    let z1 = zone_before edit text fits in
    let field = s.field in
    let to_sign = ahead_then (ahead_identifier field.name) (ahead_run field.white.run) in
    let to_value = ahead_then (ahead_char field.sign) (ahead_run field.white'.run) in
    let all = ahead_then to_sign to_value in
    let iu : Inside (before_frame edit text) u =
    record {
      text = s.same;
      start = omega arith;
      end = omega (arith, all.at, s.start);
      moved = ap (λ n. n + 0) (moved_before edit u.at (omega (arith, all.at, s.start, s.some)));
    } in
    let iv : Inside (before_frame edit text) field.value_start =
    record {
      text = all.text ∙ s.same;
      start = omega arith;
      end = omega (arith, s.start);
      moved = ap (λ n. n + 0) (moved_before edit field.value_start.at (omega (arith, s.start, s.some)));
    } in
    let ia = inside_between z1 iu iv (ahead_identifier field.name) (ahead_then (ahead_run field.white.run) to_value) in
    let ib = inside_between z1 ia iv (ahead_run field.white.run) to_value in
    let ic = inside_between z1 ib iv (ahead_char field.sign) (ahead_run field.white'.run) in
    let is_at : edit.start ≡ moved_place edit field.value_start.at =
    sym (moved_before edit edit.start s.some) ∙ ap (moved_place edit) s.start in
    let value_elements =
    subst (λ n. Elements longest (place (edited edit text) n) reading (goes edit text v)) is_at all_new in
    let opens = elements_opens value_elements in
    record {
      name_end = goes edit text field.name_end;
      before_sign = goes edit text field.before_sign;
      after_sign = goes edit text field.after_sign;
      value_start = goes edit text field.value_start;
      name =
          identifier_there z1 iu ia
          (below_between (before_frame edit text) (ahead_run field.white.run) (below_char ic field.sign)) field.name;
      white = longest_there z1 ia ib (below_char ic field.sign) field.white;
      sign = char_there z1 ib ic field.sign;
      white' = record { run = run_there z1 ic iv field.white'.run; stops = stops_at is_whitespace opens.here opens.dark };
      elements = value_elements;
      starts = ap (moved_place edit) field.starts;
      ends = ap (moved_place edit) field.ends;
    }

-- ---- a text with another value of a field

-- the edited text parses to the document with other pieces of a field, which have this property
record IsReplaced (d : Document) (edit : Edit) (k : ℕ) (e : EntryReading) (j : ℕ) (f : FieldReading)
    (known : Place → List Piece → Type 0) : Type 0 where
  reading : List Piece
  is : known (place (edited edit d.text) edit.start) reading
  some : edit.start < edit.end
  within : edit.start ≤ length d.text
  read : IsDocument (field_edited d edit k e j (with_pieces reading (moved_field (moved_place edit) f)))

-- an edit replaces the value of a field, possibly without white space at the end of the value
abbrev pub IsStretch : List ℕ → FieldReading → Edit → Type 0
IsStretch text f edit =
    (edit.start ≡ f.value.start) × (edit.start ≤ edit.end)
    × Run is_whitespace (place text edit.end) (place text f.value.end)

value_replaced : (known : Place → List Piece → Type 0) (d : Document) (edit : Edit) (k : ℕ) (e : EntryReading) (j : ℕ)
    (f : FieldReading) (new : List ℕ) → IsDocument d → slice_get d.says.entries k ≡ Some e → slice_get e.fields j ≡ Some f
    → edit.bytes ≡ new → CanBeReadTo (ReadWith known) new → IsStretch d.text f edit → IsReplaced d edit k e j f known
value_replaced known d edit k e j f new read here there' bytes can at =
    let s = split_file k e read here in
    let g = split_fields j f s.block.fields there' in
    let to_field = ahead_to_field s g in
    let over = ahead_field g.field in
    let to_value =
    ahead_then (ahead_identifier g.field.name)
    (ahead_then (ahead_run g.field.white.run)
    (ahead_then (ahead_char g.field.sign) (ahead_run g.field.white'.run))) in
    let value_at = ahead_then to_field to_value in
    let end : place d.text f.value.end ≡ g.end =
    same_place {u = place d.text f.value.end} {v = g.end} (sym (ahead_then to_field over).text) g.field.ends in
    let blank : Run is_whitespace (place d.text edit.end) g.end = subst (λ p. Run is_whitespace (place d.text edit.end) p) end at.2 in
    let start : edit.start ≡ g.field.value_start.at = at.0 ∙ g.field.starts in
    let some : edit.start < edit.end =
    subst (λ n. n < edit.end) (sym start)
    (value_some g.field.elements value_at.text (omega (arith, start, at.1)) blank) in
    let stretch : ValueStretch edit d.text f g.start g.end = record {
      field = g.field;
      same = to_field.text;
      start = start;
      white = blank;
      following = after_ending g.rest s.block.closes;
      some = some;
    } in
    let found = new_elements (ReadWith known) edit d.text new f bytes can stretch in
    let fits = fits_value edit d.text f found.reading stretch found.elements in
    record {
      reading = found.reading;
      is = found.is;
      some = some;
      within = omega (arith, fits.ordered, fits.within);
      read = field_edited_read d edit k e j f (with_pieces found.reading (moved_field (moved_place edit) f)) fits s g
          (omega (arith, start, to_value.at, (ahead_char g.field.sign).at, name_before g.field)) (ahead_run blank).at
          (new_field edit d.text f found.reading stretch found.elements);
    }
  where
    name_before : {u v : Place} {f : FieldReading} → (field : Field longest u f v) → u.at < field.value_start.at
    name_before {u} {v} {f} field =
        let rest =
        ahead_then (ahead_run field.name.rest.run)
        (ahead_then (ahead_run field.white.run)
        (ahead_then (ahead_char field.sign) (ahead_run field.white'.run))) in
        omega (arith, rest.at, field.name.here.next, (len_utf8_bounds field.name.first).0)

-- the edited text parses to the document with another value of a field, which is `new` except for byte offsets
pub record IsExchanged (d : Document) (edit : Edit) (k : ℕ) (e : EntryReading) (j : ℕ) (f : FieldReading) (new : NewValue) : Type 0 where
  pub reading : List Piece
  pub alike : map (moved_piece (λ n. 0)) reading ≡ map (moved_piece (λ n. 0)) new.pieces
  pub some : edit.start < edit.end
  pub within : edit.start ≤ length d.text
  pub read : IsDocument (field_edited d edit k e j (with_pieces reading (moved_field (moved_place edit) f)))

pub value_exchanged : (d : Document) (edit : Edit) (k : ℕ) (e : EntryReading) (j : ℕ) (f : FieldReading)
    (new : NewValue) → IsDocument d → slice_get d.says.entries k ≡ Some e → slice_get e.fields j ≡ Some f
    → edit.bytes ≡ new.bytes → CanBeRead new → IsStretch d.text f edit → IsExchanged d edit k e j f new
value_exchanged d edit k e j f new read here there bytes can at =
    let known = λ (u : Place) (reading : List Piece). map (moved_piece (λ n. 0)) reading ≡ map (moved_piece (λ n. 0)) new.pieces in
    let r =
    value_replaced known d edit k e j f new.bytes read here there bytes (λ u v w stands ending white stops.
    let x = can u v w stands ending white stops in
    record { reading = x.reading; elements = x.elements; is = x.alike }) at in
    record { reading = r.reading; alike = r.is; some = r.some; within = r.within; read = r.read }

-- ---- a value in braces

-- a text in braces parses to one literal, which begins after the brace
pub braced_elements : (value : List ℕ) → IsParts value
    → CanBeReadTo (ReadWith (λ u reading. reading ≡ literal (text_at (u.at + 1) value) ∷ [])) (in_braces value)
braced_elements value can u v w stands ending white stops =
    let to : v ≡ place u.text (u.at + length (in_braces value)) =
    same_place {u = v} {v = place u.text (u.at + length (in_braces value))} stands.same stands.next in
    let braced : Braced u (text_at (u.at + 1) value) v =
    subst (λ p. Braced u (text_at (u.at + 1) value) p) (sym to)
    (braced_stands u.text (drop v.at u.text) value u.at can stands.here) in
    record {
      reading = literal (text_at (u.at + 1) value) ∷ [];
      elements = elements.last (element.braced braced) white stops;
      is = refl;
    }

pub value_changed_read : (d : Document) (k : ℕ) (e : EntryReading) (j : ℕ) (f : FieldReading) (value : List ℕ)
    → IsDocument d → slice_get d.says.entries k ≡ Some e → slice_get e.fields j ≡ Some f → IsParts value
    → Run is_whitespace (place d.text (value_edit d.text f value).end) (place d.text f.value.end)
    → IsDocument (value_changed d k e j f value)
value_changed_read d k e j f value read here there can white =
    let edit : Edit = value_edit d.text f value in
    let moved : FieldReading = moved_field (moved_place edit) f in
    let r =
    value_replaced (λ u reading. reading ≡ literal (text_at (u.at + 1) value) ∷ []) d edit k e j f (in_braces value) read here there refl
    (braced_elements value can) (refl, omega arith, white) in
    let kept : edit.start ≡ moved_place edit edit.start = sym (moved_before edit edit.start r.some) in
    subst (λ pieces. IsDocument (field_edited d edit k e j (with_pieces pieces moved)))
    (r.is ∙ ap (λ n. literal (text_at (n + 1) value) ∷ []) kept) r.read
