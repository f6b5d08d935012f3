-- Fields that replace one field, written with commas between them.
use Rattle.std.proofs.Common.{◌≡◌, ℕ, ◌+◌, ◌-◌, ◌<◌, ◌≤◌, List, [], ◌∷◌, ◌++◌, length, drop, map, codes, refl, sym, ap, ◌∙◌, subst, arith, append_assoc, append-nil, Some}
use Rattle.std.specs.Prelude.{◌==◌, slice_get}
use Rattle.std.specs.Char.{is_whitespace}
use Rattle.std.specs.List.{AllByRecursion}
use Rattle.bib_text.specs.Places.{Place, place, Longest, Run, Stops, between}
use Rattle.bib_text.specs.Places.Run.{stop}
use Rattle.bib_text.proofs.PlaceFacts.{ahead_char, ahead_run, ahead_then, same_place, stops_at, char_within}
use Rattle.bib_syntax.specs.Reading.{Piece, EntryReading, FieldReading}
use Rattle.bib_syntax.specs.Reading.Piece.{abbreviation, literal}
use Rattle.bib_syntax.specs.Grammar.{Element, Field, longest}
use Rattle.bib_syntax.specs.Grammar.{Elements as elements}
use Rattle.bib_syntax.specs.Grammar.{Gap as gap}
use Rattle.bib_syntax.proofs.FieldFacts.{ahead_field, elements_stop}
use Rattle.bib_syntax.proofs.LawFacts.{start_not_white, start_plain}
use Rattle.edit_entries.specs.Edits.{Edit, edited, moved_field, moved_piece, moved_place}
use Rattle.edit_entries.specs.Documents.{CanBeName, Document, IsDocument, text_at}
use Rattle.edit_entries.proofs.AgreementFacts.{Agrees, agrees_before, same_run}
use Rattle.edit_entries.proofs.EditFacts.{after_frame, moved_after, moved_before, new_bytes, text_stands, zone_after}
use Rattle.edit_entries.proofs.EntryFacts.{ahead_to_field, goes}
use Rattle.edit_entries.proofs.SplitFacts.{FieldsBefore, split_fields, split_file}
use Rattle.edit_entries.proofs.ValueFacts.{elements_opens}
use Rattle.edit_entries.proofs.ZoneFacts.{Inside, char_there, inside, run_there, stops_there, there}
use Rattle.edit_entries.proofs.ElementFacts.{Ending}
use Rattle.edit_entries.proofs.StandsFacts.{AreWhite, Stands, ascii, first_part, last_part, past, run_white}
use Rattle.edit_entries.specs.Changes.{IsTrimmed, field_stretch, NewField, field_reading, field_text_by, new_field_text, signed_field_text, spaced_sign, more_field_texts}
use Rattle.edit_entries.proofs.NewValueFacts.{CanBeRead, after_ending, run_ending}
use Rattle.edit_entries.proofs.ElementStandsFacts.{element_stands}
use Rattle.edit_entries.proofs.KindFacts.{IsWithin}
use Rattle.edit_entries.proofs.FieldMadeFacts.{IsPut}
use Rattle.edit_entries.proofs.PutFacts.{Begins, NewFields, fields_put, fields_put_read, new_opens}
use Rattle.edit_entries.proofs.NameStandsFacts.{name_stands}

-- ---- one field

-- a field that can be inserted: its name is an identifier, and its value parses to its pieces before each text that may follow a value
pub record CanBePut (n : NewField) : Type 0 where
  pub name : CanBeName n.name
  pub value : CanBeRead n.value

-- a moved piece is the old one, except for its byte offsets
pub piece_placeless : (move : ℕ → ℕ) (e : Piece) → moved_piece (λ n. 0) (moved_piece move e) ≡ moved_piece (λ n. 0) e
piece_placeless move (literal p) = refl
piece_placeless move (abbreviation p) = refl

-- the bytes of a piece parse to this piece before each text that may follow a value
pub element_read : {a b : Place} {e : Piece} (bytes : List ℕ) → Element longest a e b → b.at ≤ length a.text
    → between a b ≡ bytes → CanBeRead (record { bytes = bytes; pieces = e ∷ [] })
element_read {a} {b} {e} bytes x within is = λ u v w s ending over no_hash.
    let move = λ (n : ℕ). n - a.at + u.at in
    record {
      reading = moved_piece move e ∷ [];
      elements = elements.last (element_stands x within (subst (λ t. Stands u t v) (sym is) s) ending) over no_hash;
      alike = ap (λ p. p ∷ []) (piece_placeless move e);
    }

-- a new field parses between two places, except for byte offsets
pub record IsRead (n : NewField) (u w : Place) : Type 0 where
  pub reading : FieldReading
  pub field : Field longest u reading w
  pub start : reading.name.start ≡ u.at
  pub alike : moved_field (λ n. 0) reading ≡ moved_field (λ n. 0) (field_reading n)

-- a text can be between a name and a value: an equals sign with white space around it
pub record IsSign (sign : List ℕ) : Type 0 where
  pub before : List ℕ
  pub after : List ℕ
  pub is : sign ≡ before ++ 61 ∷ after
  pub white : AreWhite before
  pub white' : AreWhite after

pub usual_sign : IsSign (codes " = ")
usual_sign = record { before = 32 ∷ []; after = 32 ∷ []; is = refl; white = ((omega arith, refl), tt); white' = ((omega arith, refl), tt) }

pub signed_read : {u v w : Place} (n : NewField) (sign : List ℕ) → CanBePut n → IsSign sign → Stands u (signed_field_text sign n) v
    → Ending v → Longest is_whitespace v w → Stops (λ c. c == 35) w → IsRead n u w
signed_read {u} {v} {w} n sign can is s ending over no_hash =
    let bytes : List ℕ = n.value.bytes in
    let from_sign : List ℕ = 61 ∷ (is.after ++ bytes) in
    let whole : signed_field_text sign n ≡ n.name ++ (is.before ++ from_sign) =
    ap (λ t. n.name ++ t) (ap (λ t. t ++ bytes) is.is ∙ append_assoc is.before (61 ∷ is.after) bytes) in
    let s0 = subst (λ t. Stands u t v) whole s in
    let name = first_part n.name (is.before ++ from_sign) s0 in
    let s1 = last_part n.name (is.before ++ from_sign) s0 in
    let white = run_white is.before is.white (first_part is.before from_sign s1) in
    let s2 = last_part is.before from_sign s1 in
    let equals = ascii 61 (omega arith) (first_part (61 ∷ []) (is.after ++ bytes) s2) in
    let s3 = last_part (61 ∷ []) (is.after ++ bytes) s2 in
    let white' = run_white is.after is.white' (first_part is.after bytes s3) in
    let s4 = last_part is.after bytes s3 in
    let value = can.value _ v w s4 ending over no_hash in
    let opens = elements_opens value.elements in
    let following = run_ending white (record { char = 61; next = _; here = equals; no_name = refl; no_digit = refl; no_point = refl }) in
    let build : List Piece → FieldReading =
    λ (ps : List Piece).
    record {
      name = record { text = n.name; start = 0; end = 0 };
      value = record { pieces = ps; start = 0; end = 0 };
    } in
    record {
      reading = record { name = text_at u.at n.name; value = record { pieces = value.reading; start = _; end = w.at } };
      field = record {
        name_end = _;
        before_sign = _;
        after_sign = _;
        value_start = _;
        name = name_stands u.text _ n.name u.at following.char can.name name.here following.here following.no_name;
        white = record { run = white; stops = stops_at is_whitespace equals refl };
        sign = equals;
        white' = record { run = white'; stops = stops_at is_whitespace opens.here opens.dark };
        elements = value.elements;
        starts = refl;
        ends = refl;
      };
      start = refl;
      alike = ap build value.alike;
    }

pub field_read : {u v w : Place} (n : NewField) → CanBePut n → Stands u (new_field_text n) v → Ending v
    → Longest is_whitespace v w → Stops (λ c. c == 35) w → IsRead n u w
field_read n can s ending over no_hash = signed_read n (codes " = ") can usual_sign s ending over no_hash

-- for each name, a text can be between this name and a value
abbrev pub AreSigns : (List ℕ → List ℕ) → Type 0
AreSigns sign = (name : List ℕ) → IsSign (sign name)

pub spaced_signs : AreSigns spaced_sign
spaced_signs name = usual_sign

-- ---- all fields

-- new fields with commas between them parse between two places, except for byte offsets
pub record AreFieldsRead (fields : List NewField) (u w : Place) : Type 0 where
  pub readings : List FieldReading
  pub news : NewFields u readings w
  pub begins : Begins readings u.at
  pub alike : map (moved_field (λ n. 0)) readings ≡ map (moved_field (λ n. 0)) (map field_reading fields)

pub fields_read : {u v w : Place} (sign : List ℕ → List ℕ) (n : NewField) (ns : List NewField) (space : List ℕ) → AreSigns sign
    → CanBePut n → AllByRecursion CanBePut ns → AreWhite space → Stands u (field_text_by sign n ++ more_field_texts sign space ns) v
    → Ending v → Longest is_whitespace v w → Stops (λ c. c == 35) w → AreFieldsRead (n ∷ ns) u w
fields_read {u} {v} {w} sign n [] space signs can all white s ending over no_hash =
    let alone = subst (λ t. Stands u t v) (append-nil (field_text_by sign n)) s in
    let x = signed_read n (sign n.name) can (signs n.name) alone ending over no_hash in
    record {
      readings = x.reading ∷ [];
      news = record { first = []; last = x.reading; middle = u; before = FieldsBefore.none; field = x.field; are = refl };
      begins = record { first = x.reading; others = []; are = refl; start = x.start };
      alike = ap (λ r. r ∷ []) x.alike;
    }
fields_read {u} {v} {w} sign n (m ∷ ms) space signs can all white s ending over no_hash =
    let written : List ℕ = field_text_by sign n in
    let next : List ℕ = field_text_by sign m in
    let more : List ℕ = more_field_texts sign space ms in
    let rest : List ℕ = next ++ more in
    let joined : (space ++ next) ++ more ≡ space ++ rest = append_assoc space next more in
    let first = first_part written (44 ∷ ((space ++ next) ++ more)) s in
    let s1 = last_part written (44 ∷ ((space ++ next) ++ more)) s in
    let comma = ascii 44 (omega arith) (first_part (44 ∷ []) ((space ++ next) ++ more) s1) in
    let s2 = last_part (44 ∷ []) ((space ++ next) ++ more) s1 in
    let s3 = subst (λ t. Stands (past (past u written) (44 ∷ [])) t v) joined s2 in
    let blank = first_part space rest s3 in
    let s4 = last_part space rest s3 in
    let others =
    fields_read {u = past (past (past u written) (44 ∷ [])) space} {v = v} {w = w} sign m ms space signs all.0 all.1 white s4 ending
    over no_hash in
    let none : Longest is_whitespace (past u written) (past u written) =
    record { run = stop; stops = stops_at is_whitespace comma refl } in
    let x =
    signed_read n (sign n.name) can (signs n.name) first
    (record { char = 44; next = _; here = comma; no_name = refl; no_digit = refl; no_point = refl }) none
    (stops_at (λ c. c == 35) comma refl) in
    let opens = new_opens others.news.before others.news.field in
    let gap1 = gap.white none (stops_at (λ c. c == 37) comma refl) in
    let gap2 =
    gap.white
    (record {
      run = run_white space white blank;
      stops = stops_at is_whitespace opens.here (start_not_white opens.char opens.starts);
    }) (stops_at (λ c. c == 37) opens.here (start_plain opens.char opens.starts)) in
    record {
      readings = x.reading ∷ others.readings;
      news = record {
        first = x.reading ∷ others.news.first;
        last = others.news.last;
        middle = others.news.middle;
        before = FieldsBefore.more x.field gap1 comma gap2 others.news.before;
        field = others.news.field;
        are = ap (λ l. x.reading ∷ l) others.news.are;
      };
      begins = record { first = x.reading; others = others.readings; are = refl; start = x.start };
      alike =
          ap (λ r. r ∷ map (moved_field (λ n. 0)) others.readings) x.alike
          ∙ ap (λ rs. moved_field (λ n. 0) (field_reading n) ∷ rs) others.alike;
    }

-- ---- instead of a field

module _ (d : Document) (f : FieldReading) (sign : List ℕ → List ℕ) (n : NewField) (ns : List NewField) (space : List ℕ)
    (trimmed : IsTrimmed d.text f) (ordered : f.name.start < f.value.start) (signs : AreSigns sign) (can : CanBePut n)
    (all : AllByRecursion CanBePut ns) (blank_between : AreWhite space) where
  abbrev edit : Edit
  edit = field_stretch d.text f (field_text_by sign n ++ more_field_texts sign space ns)

  divided_read : (at k : ℕ) (after : Document) (entry : EntryReading) (j : ℕ) → f.value.end ≤ at → Agrees at d after
      → IsDocument after → slice_get after.says.entries k ≡ Some entry → slice_get entry.fields j ≡ Some f
      → (made : List FieldReading)
      × (map (moved_field (λ n. 0)) made ≡ map (moved_field (λ n. 0)) (map field_reading (n ∷ ns)))
      × IsWithin edit after.text × IsDocument (fields_put after edit k entry j made) × Begins made f.name.start
  divided_read at k after entry j past agrees read here there' =
      let text = after.text in
      let s = split_file k entry read here in
      let b = s.block in
      let g = split_fields j f b.fields there' in
      let to_field = ahead_to_field s g in
      let at_end = ahead_then to_field (ahead_field g.field) in
      let end : place text f.value.end ≡ g.end = same_place {u = place text f.value.end} {v = g.end} (sym at_end.text) g.field.ends in
      let same = (agrees_before at f.value.end d after past agrees).text in
      let blank : Run is_whitespace (place text edit.end) g.end =
      subst (λ p. Run is_whitespace (place text edit.end) p) end
      (same_run d.text text f.value.end same refl (omega arith) trimmed) in
      let start_is : edit.start ≡ g.start.at = ap (λ p. p.start) g.field.name.reading in
      let some : edit.start < edit.end = omega arith in
      let following = after_ending g.rest b.closes in
      let white = ahead_run blank in
      let end_within : g.end.at ≤ length text =
      omega (
        arith,
        char_within following.here,
        (ahead_char following.here).at,
        ap length following.here.same,
        ap length white.text,
      ) in
      let within : edit.end ≤ length text = omega (arith, white.at) in
      let z = zone_after edit text (omega (arith, some)) within in
      let frame = after_frame edit text in
      let here' : Inside frame (place text edit.end) = inside z refl (omega arith) (omega arith) in
      let last : Inside frame g.end = inside z white.text white.at (omega arith) in
      let ending = run_ending blank following in
      let next : Inside frame ending.next =
      inside z ending.here.same (omega (arith, (ahead_char ending.here).at))
      (omega (arith, char_within ending.here, ap length ending.here.same)) in
      let is_end : moved_place edit edit.end ≡ edit.start + length edit.bytes = omega (arith, moved_after edit edit.end (omega arith)) in
      let from : Place = place (edited edit text) edit.start in
      let to : Place = goes edit text (place text edit.end) in
      let standing : drop edit.start (edited edit text) ≡ edit.bytes ++ drop edit.end text = new_bytes edit text (omega (arith, some)) in
      let stands : Stands from edit.bytes to = record {
        same = refl;
        here =
            standing
            ∙ ap (λ xs. edit.bytes ++ xs)
            (sym (text_stands (edited edit text) edit.bytes (drop edit.end text) edit.start standing)
            ∙ ap (λ m. drop m (edited edit text)) (sym is_end));
        next = is_end;
      } in
      let ending' : Ending to =
      record {
        char = ending.char;
        next = there frame ending.next;
        here = char_there z here' next ending.here;
        no_name = ending.no_name;
        no_digit = ending.no_digit;
        no_point = ending.no_point;
      } in
      let stops = elements_stop g.field.elements in
      let below : g.end.at < frame.end = omega arith in
      let over : Longest is_whitespace to (goes edit text g.end) =
      record { run = run_there z here' last blank; stops = stops_there is_whitespace z last below stops.0 } in
      let x =
      fields_read sign n ns space signs can all blank_between stands ending' over (stops_there (λ c. c == 35) z last below stops.1) in
      let start_goes : moved_place edit g.start.at ≡ edit.start =
      moved_before edit g.start.at (omega (arith, start_is, some)) ∙ sym start_is in
      let news = subst (λ m. NewFields (place (edited edit text) m) x.readings (goes edit text g.end)) (sym start_goes) x.news in (
        x.readings,
        x.alike,
        record { some = some; within = omega (arith, some, within) },
        fields_put_read after edit k entry j f x.readings s g start_is some white.at news,
        x.begins,
      )

  pub divided_put : f.value.start < f.value.end → IsPut d f edit (map field_reading (n ∷ ns))
  divided_put some = record { start = omega arith; inside = omega (arith, ordered, some); read = divided_read }
