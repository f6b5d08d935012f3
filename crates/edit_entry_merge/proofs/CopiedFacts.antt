-- The value of a field that is copied into another text parses to the same pieces there.
use Rattle.std.proofs.Common.{◌≡◌, ◌⊎◌, inl, inr, ℕ, ◌+◌, ◌-◌, ◌<◌, ◌≤◌, Bool, true, false, not, List, [], ◌∷◌, ◌++◌, length, take, drop, map, refl, sym, ap, ◌∙◌, subst, arith}
use Rattle.std.specs.Prelude.{encode_utf8, ◌&&◌, ◌==◌}
use Rattle.std.specs.Char.{is_whitespace, is_control}
use Rattle.std.proofs.lemmas.Bool.{and_right, cases_lt}
use Rattle.std.proofs.lemmas.Str.{len_utf8_bounds}
use Rattle.bib_text.specs.Places.{Place, place, CharAt, Run, Stops, Longest, between}
use Rattle.bib_text.specs.Places.Run.{stop, step}
use Rattle.bib_text.proofs.BoundaryFacts.{not_over}
use Rattle.bib_text.proofs.BraceFacts.{ahead_parts}
use Rattle.bib_text.proofs.DigitFacts.{digit_dark}
use Rattle.bib_text.proofs.PlaceFacts.{Ahead, ahead_then, ahead_char, ahead_run, run_append, same_char, same_place, stops_at, test_clash}
use Rattle.bib_syntax.specs.Characters.{is_delimiter, is_id_continue}
use Rattle.bib_syntax.specs.Reading.{Piece, FieldReading}
use Rattle.bib_syntax.specs.Grammar.{Element, Elements, Field, longest}
use Rattle.bib_syntax.specs.Grammar.{Number as number}
use Rattle.bib_syntax.specs.Grammar.{Element as element}
use Rattle.bib_syntax.specs.Grammar.{Elements as elements}
use Rattle.bib_syntax.proofs.FieldFacts.{ahead_element, ahead_elements, ahead_identifier, ahead_quoted_parts}
use Rattle.bib_syntax.proofs.LawFacts.{start_not_white}
use Rattle.edit_entries.specs.Changes.{IsTrimmed}
use Rattle.edit_entries.specs.Edits.{moved_piece}
use Rattle.edit_entries.proofs.ElementFacts.{Ending, char_parted, parted}
use Rattle.edit_entries.proofs.ElementStandsFacts.{element_stands}
use Rattle.edit_entries.proofs.NewFieldFacts.{piece_placeless}
use Rattle.edit_entries.proofs.NewValueFacts.{AreRead, CanBeRead, run_ending}
use Rattle.edit_entries.proofs.StandsFacts.{Stands, char_stands, first_part, last_part, nothing}
use Rattle.edit_entries.proofs.ValueFacts.{elements_opens}
use Rattle.edit_entry_merge.specs.Mixed.{copied}

-- ---- the last character of a piece

-- a character that isn't white space begins at or after `u` and ends at `v`
record Closes (u v : Place) : Type 0 where
  char : ℕ
  last : Place
  here : CharAt last char v
  dark : is_whitespace char ≡ false
  ahead : Ahead u last

-- a character of a name isn't white space
id_dark : (c : ℕ) → is_id_continue c ≡ true → is_whitespace c ≡ false
id_dark c name = by_case (is_whitespace c) refl
  where
    by_case : (b : Bool) → is_whitespace c ≡ b → b ≡ false
    by_case false is = refl
    by_case true is =
        absurd
        (test_clash (is_id_continue c) name
        (and_right (not (is_delimiter c) && not (is_control c)) (not (is_whitespace c)) (ap not is)))

run_closes : {test : ℕ → Bool} {u v w : Place} {c : ℕ} → ((d : ℕ) → test d ≡ true → is_whitespace d ≡ false)
    → CharAt u c v → is_whitespace c ≡ false → Run test v w → Closes u w
run_closes {u = u} {c = c} each char dark stop = record {
  char = c;
  last = u;
  here = char;
  dark = dark;
  ahead = record { text = refl; at = omega arith };
}
run_closes each char dark (step {c = d} next passes rest) =
    let later = run_closes each next (each d passes) rest in
    record {
      char = later.char;
      last = later.last;
      here = later.here;
      dark = later.dark;
      ahead = ahead_then (ahead_char char) later.ahead;
    }

element_closes : {u v : Place} {e : Piece} → Element longest u e v → Closes u v
element_closes (element.number (number.whole {c = c} char digit digits ends)) =
    run_closes digit_dark char (digit_dark c digit) digits.run
element_closes (element.number (number.broken char digit digits point others ends)) =
    let later = run_closes digit_dark point refl others.run in
    record {
      char = later.char;
      last = later.last;
      here = later.here;
      dark = later.dark;
      ahead = ahead_then (ahead_char char) (ahead_then (ahead_run digits.run) later.ahead);
    }
element_closes (element.named none i) = run_closes id_dark i.here (start_not_white i.first i.starts) i.rest.run
element_closes (element.braced b) = record {
  char = 125;
  last = b.following;
  here = b.closes;
  dark = refl;
  ahead = ahead_then (ahead_char b.opens) (ahead_parts b.parts);
}
element_closes (element.quoted q) = record {
  char = 34;
  last = q.following;
  here = q.closes;
  dark = refl;
  ahead = ahead_then (ahead_char q.opens) (ahead_quoted_parts q.parts);
}

-- ---- white space after the last piece

-- a character in a run of white space is white space
in_white : {z v y x : Place} {c : ℕ} → Run is_whitespace z v → CharAt y c x → y.text ≡ z.text → z.at ≤ y.at → x.at ≤ v.at
    → is_whitespace c ≡ true
in_white {c = c} stop char same from to = absurd (omega (arith, char.next, (len_utf8_bounds c).0, from, to))
in_white {z} {v} {y} {x} {c} (step {v = next} {c = d} first white rest) char same from to =
    elim (cases_lt z.at y.at) [
      | inl before ↦
          let here : CharAt (place z.text y.at) c x =
          subst (λ t. CharAt (place t y.at) c x) same (record { same = char.same; here = char.here; next = char.next }) in
          in_white rest char (same ∙ sym first.same) (not_over z.text y.at (inr (c, x, here)) refl first before) to
      | inr here ↦
          let is : y ≡ z = same_place same (omega (arith, here, from)) in
          let both = same_char first (subst (λ p. CharAt p c x) is char) in
          subst (λ e. is_whitespace e ≡ true) both.0 white
    ]

-- a run is empty, or a character is where it begins
run_start : {test : ℕ → Bool} {z v : Place} → Run test z v → (z ≡ v) ⊎ ((c : ℕ) × (w : Place) × CharAt z c w)
run_start stop = inl refl
run_start (step {v = w} {c = c} char passes rest) = inr (c, w, char)

-- a character that begins before a run, in the same text, ends at or before it
before_run : {test : ℕ → Bool} {z v y x : Place} {c : ℕ} → Run test z v → CharAt y c x → y.text ≡ z.text → x.at ≤ v.at → y.at < z.at
    → x.at ≤ z.at
before_run {z = z} run char same to before =
    elim (run_start run) [
      | inl none ↦ omega (arith, to, ap (λ p. p.at) none)
      | inr first ↦
          not_over z.text z.at
          (inr (first.0, first.1, record { same = first.2.same; here = first.2.here; next = first.2.next })) same char before
    ]

-- white space at the end of a value begins at or after the end of its last piece
after_last : {u z v x : Place} → Run is_whitespace z v → Closes u x → z.text ≡ u.text → x.at ≤ v.at → x.at ≤ z.at
after_last {u} {z} {v} {x} white closes same to =
    let texts : closes.last.text ≡ z.text = closes.ahead.text ∙ sym same in
    elim (cases_lt closes.last.at z.at) [
      | inl over ↦ before_run white closes.here texts to over
      | inr from ↦
          absurd
          (test_clash (is_whitespace closes.char) (in_white white closes.here texts (omega (arith, from)) to) closes.dark)
    ]

-- two runs with the same end: the first one reaches the start of the second one
run_between : {test : ℕ → Bool} {x z v : Place} → Run test x v → Run test z v → z.text ≡ x.text → x.at ≤ z.at → Run test x z
run_between {test} {x} {z} stop other same from =
    let is : x ≡ z = same_place (sym same) (omega (arith, from, (ahead_run other).at)) in subst (λ p. Run test x p) is stop
run_between {test} {x} {z} {v} (step {v = next} {c = c} char passes rest) other same from =
    elim (cases_lt x.at z.at) [
      | inl before ↦
          step char passes
          (run_between rest other (same ∙ sym char.same) (before_run other char (sym same) (ahead_run rest).at before))
      | inr here ↦ let is : x ≡ z = same_place (sym same) (omega (arith, here, from)) in subst (λ p. Run test x p) is stop
    ]

-- the first piece of a value begins at or before the white space at its end
before_white : {u v z : Place} {es : List Piece} → Elements longest u es v → Run is_whitespace z v → z.text ≡ u.text → u.at ≤ z.at
before_white (elements.last e white ends) end same =
    omega (arith, (ahead_element e).at, after_last end (element_closes e) same (ahead_run white.run).at)
before_white (elements.more e white sign white' rest) end same =
    let past = ahead_then (ahead_element e) (ahead_then (ahead_run white.run) (ahead_then (ahead_char sign) (ahead_run white'.run))) in
    omega (arith, past.at, before_white rest end (same ∙ sym past.text))

-- ---- copies

pub run_copied : {test : ℕ → Bool} {a b u v : Place} → Run test a b → b.at ≤ length a.text → Stands u (between a b) v → Run test u v
run_copied {test} {a} {b} {u} {v} stop within s =
    let none : a.at - a.at ≡ 0 = omega arith in
    let empty : between a a ≡ [] = ap (λ n. take n (drop a.at a.text)) none in
    subst (λ p. Run test u p) (nothing (subst (λ t. Stands u t v) empty s)) stop
run_copied {test} {a} {b} {u} {v} (step {v = next} {c = c} char passes rest) within s =
    let s' = subst (λ t. Stands u t v) (char_parted char (ahead_run rest) within) s in
    step (char_stands c (first_part (encode_utf8 c) (between next b) s')) passes
    (run_copied rest (omega (arith, within, ap length char.same)) (last_part (encode_utf8 c) (between next b) s'))

pub elements_copied : {a v z u v' w : Place} {es : List Piece} → Elements longest a es v → Run is_whitespace z v → z.text ≡ a.text
    → z.at ≤ length a.text → Stands u (between a z) v' → Ending v' → Longest is_whitespace v' w → Stops (λ c. c == 35) w → AreRead es u w
elements_copied {a} {v} {z} {u} {v'} {w} (elements.last {v = x} {e = e} first white ends) end same within s ending over no_hash =
    let reached = after_last end (element_closes first) same (ahead_run white.run).at in
    let ahead : Ahead x z = record { text = same ∙ sym (ahead_element first).text; at = reached } in
    let s' = subst (λ t. Stands u t v') (parted (ahead_element first) ahead within) s in
    let here = first_part (between a x) (between x z) s' in
    let rest = last_part (between a x) (between x z) s' in
    let run =
    run_copied (run_between white.run end (same ∙ sym (ahead_element first).text) reached)
    (omega (arith, within, ap length (ahead_element first).text)) rest in
    let move = λ (n : ℕ). n - a.at + u.at in
    record {
      reading = moved_piece move e ∷ [];
      elements =
          elements.last (element_stands first (omega (arith, reached, within)) here (run_ending run ending))
          (record { run = run_append run over.run; stops = over.stops }) no_hash;
      alike = ap (λ p. p ∷ []) (piece_placeless move e);
    }
elements_copied {a} {v} {z} {u} {v'} {w}
    (elements.more {v = x} {w = y} {x = p} {y = q} {e = e} {es = es} first white sign white' later) end same within s
    ending over no_hash =
    let to_x = ahead_element first in
    let to_y = ahead_run white.run in
    let to_p = ahead_char sign in
    let to_q = ahead_run white'.run in
    let at_q = ahead_then to_x (ahead_then to_y (ahead_then to_p to_q)) in
    let same_q : z.text ≡ q.text = same ∙ sym at_q.text in
    let to_z : Ahead q z = record { text = same_q; at = before_white later end same_q } in
    let from_p = ahead_then to_q to_z in
    let from_y = ahead_then to_p from_p in
    let from_x = ahead_then to_y from_y in
    let whole : between a z ≡ between a x ++ (between x y ++ (encode_utf8 35 ++ (between p q ++ between q z))) =
    parted to_x from_x within
    ∙ ap (λ t. between a x ++ t)
    (parted to_y from_y (omega (arith, within, ap length to_x.text))
    ∙ ap (λ t. between x y ++ t)
    (char_parted sign from_p (omega (arith, within, ap length to_x.text, ap length to_y.text))
    ∙ ap (λ t. encode_utf8 35 ++ t)
    (parted to_q to_z (omega (arith, within, ap length to_x.text, ap length to_y.text, ap length sign.same))))) in
    let s0 = subst (λ t. Stands u t v') whole s in
    let here = first_part (between a x) (between x y ++ (encode_utf8 35 ++ (between p q ++ between q z))) s0 in
    let s1 = last_part (between a x) (between x y ++ (encode_utf8 35 ++ (between p q ++ between q z))) s0 in
    let run =
    run_copied white.run (omega (arith, within, from_y.at, ap length to_x.text))
    (first_part (between x y) (encode_utf8 35 ++ (between p q ++ between q z)) s1) in
    let s2 = last_part (between x y) (encode_utf8 35 ++ (between p q ++ between q z)) s1 in
    let sign' = char_stands 35 (first_part (encode_utf8 35) (between p q ++ between q z) s2) in
    let s3 = last_part (encode_utf8 35) (between p q ++ between q z) s2 in
    let run' =
    run_copied white'.run
    (omega (arith, within, to_z.at, ap length to_x.text, ap length to_y.text, ap length sign.same))
    (first_part (between p q) (between q z) s3) in
    let s4 = last_part (between p q) (between q z) s3 in
    let others =
    elements_copied later end same_q (omega (arith, within, ap length at_q.text)) s4 ending over no_hash in
    let opens = elements_opens others.elements in
    let move = λ (n : ℕ). n - a.at + u.at in
    let after = run_ending run (record { char = 35; next = _; here = sign'; no_name = refl; no_digit = refl; no_point = refl }) in
    record {
      reading = moved_piece move e ∷ others.reading;
      elements =
          elements.more (element_stands first (omega (arith, from_x.at, within)) here after)
          (record { run = run; stops = stops_at is_whitespace sign' refl }) sign'
          (record { run = run'; stops = stops_at is_whitespace opens.here opens.dark }) others.elements;
      alike =
          ap (λ r. r ∷ map (moved_piece (λ n. 0)) others.reading) (piece_placeless move e)
          ∙ ap (λ ps. moved_piece (λ n. 0) e ∷ ps) others.alike;
    }

-- the value of a field of a text can be copied
pub copied_read : (text : List ℕ) (f : FieldReading) {u v : Place} → u.text ≡ text → v.at ≤ length text → Field longest u f v
    → IsTrimmed text f → CanBeRead (copied text f)
copied_read text f {u} {v} same within field trimmed = λ from to w s ending over no_hash.
    let to_value =
    ahead_then (ahead_identifier field.name)
    (ahead_then (ahead_run field.white.run) (ahead_then (ahead_char field.sign) (ahead_run field.white'.run))) in
    let start : field.value_start ≡ place text f.value.start = same_place (to_value.text ∙ same) (sym field.starts) in
    let end : v ≡ place text f.value.end =
    same_place ((ahead_elements field.elements).text ∙ to_value.text ∙ same) (sym field.ends) in
    let read =
    subst (λ p. Elements longest p f.value.pieces (place text f.value.end)) start
    (subst (λ p. Elements longest field.value_start f.value.pieces p) end field.elements) in
    elements_copied read trimmed refl (omega (arith, (ahead_run trimmed).at, within, field.ends)) s ending over no_hash
