-- A recoded piece parses from its output with its delimiters.
use Rattle.std.proofs.Common.{◌≡◌, ℕ, ◌+◌, ◌-◌, ◌<◌, ◌≤◌, Bool, true, false, cond, List, [], ◌∷◌, ◌++◌, length, map, codes, refl, sym, ap, ◌∙◌, subst, arith, append-nil}
use Rattle.std.specs.Prelude.{◌==◌, ◌||◌, not, encode_utf8_all}
use Rattle.std.specs.Char.{is_ascii_digit, is_whitespace}
use Rattle.std.specs.List.{AllByRecursion, ends_with}
use Rattle.std.specs.Str.{IsUtf8, chars}
use lib.Dec.{eqb}
use Rattle.std.proofs.lemmas.Bool.{lt-ltb, ne_eqb}
use Rattle.std.proofs.lemmas.Bool.Decides.{nat_tests}
use Rattle.std.proofs.lemmas.Str.{IsUtf8-between, encode_ascii, encodes-chars}
use Rattle.bib_text.specs.Places.{Place, CharAt, Run, Stops, Longest, between}
use Rattle.bib_text.specs.Places.Run.{stop, step}
use Rattle.bib_text.proofs.BraceFacts.{ahead_parts}
use Rattle.bib_text.proofs.PlaceFacts.{Ahead, ahead_then, ahead_char, ahead_run, stops_at}
use Rattle.bib_syntax.specs.Reading.{Part, part, Piece}
use Rattle.bib_syntax.specs.Reading.Piece.{literal}
use Rattle.bib_syntax.specs.Grammar.{Braced, Element, Number, Quoted, longest}
use Rattle.bib_syntax.specs.Grammar.{Element as element}
use Rattle.bib_syntax.specs.Grammar.{Elements as elements}
use Rattle.bib_syntax.specs.Grammar.{Number as number}
use Rattle.bib_syntax.proofs.FieldFacts.{ahead_quoted_parts}
use Rattle.edit_entries.specs.Edits.{moved_piece}
use Rattle.edit_entries.proofs.CutFacts.{cut_stood, stood, stood_parts, stood_quoted}
use Rattle.edit_entries.proofs.ElementFacts.{Ending, NotOpened, before, brace_before, char_parted, parted, quote_before}
use Rattle.edit_entries.proofs.ElementStandsFacts.{element_stands}
use Rattle.edit_entries.proofs.NewValueFacts.{AreRead, CanBeRead}
use Rattle.edit_entries.proofs.StandsFacts.{Stands, ascii, between_stands, first_part, last_part, past}
use Rattle.edit_entries.proofs.ValueFacts.{elements_opens}
use Rattle.edit_entries.proofs.NewFieldFacts.{piece_placeless}
use Rattle.edit_format.specs.Delimited.{piece_as_written}
use Rattle.edit_format.specs.Formatted.{value_laid_out}
use Rattle.edit_format.specs.declared.style.Delimiters.TheVariants.{Keep}
use Rattle.edit_format.proofs.NameFacts.{none_between}
use Rattle.edit_strings.specs.Expanded.{laid_out}
use Rattle.edit_strings.proofs.ElementFacts.{IsElement, IsSome}
use Rattle.edit_strings.proofs.StandingFacts.{element_written}
use Rattle.edit_accents.specs.Accents.{decoded, signs}
use Rattle.edit_accents.specs.Balance.{text_fits}
use Rattle.edit_accents.specs.Recoded.{has_other_form, is_other_form, piece_recoded, text_recoded, with_form}
use Rattle.edit_accents.specs.declared.recoding.Form.{Form}
use Rattle.edit_accents.specs.declared.recoding.Form.TheVariants.{Characters, Commands}
use Rattle.edit_accents.specs.declared.signs.Stretch.TheVariants.{Text}
use Rattle.edit_accents.specs.declared.writing.Spot.TheVariants.{Free}
use Rattle.edit_accents.proofs.EncodedFacts.{encoded_fits}
use Rattle.edit_accents.proofs.FitFacts.{signs_fit, written_fits}
use Rattle.edit_accents.proofs.GrammarFacts.{parts_fit, parts_stand, quoted_fit, quoted_stand}
use Rattle.edit_accents.proofs.ReducedFacts.{decoded_fit}

-- ---- the new text of a literal

-- the new text of a literal is the bytes of characters whose braces and quotes fit
record IsRecodedBy (form : Form) (q : Bool) (old : List ℕ) : Type 0 where
  characters : List ℕ
  spelt : text_recoded form old ≡ encode_utf8_all characters
  balanced : text_fits q false 0 characters ≡ true

same_text : (form : Form) (old : List ℕ) → has_other_form form old ≡ false → text_recoded form old ≡ old
same_text form old none = ap (λ b. cond b (encode_utf8_all (with_form form (chars old))) old) none

-- if the braces and quotes of a text fit, so do those of the text in a form
form_fits : (form : Form) (q : Bool) (cs : List ℕ) → text_fits q false 0 cs ≡ true → text_fits q false 0 (with_form form cs) ≡ true
form_fits Characters q cs fit =
    written_fits q false 0 Free (decoded (signs Text false cs))
    (decoded_fit q false 0 (signs Text false cs) (signs_fit q false 0 Text cs fit))
form_fits Commands q cs fit = encoded_fits q false 0 Text cs fit

recoded_by : (form : Form) (q : Bool) (old : List ℕ) → IsUtf8 old → text_fits q false 0 (chars old) ≡ true → IsRecodedBy form q old
recoded_by form q old utf8 fit = by_other_form (has_other_form form old) refl
  where
    by_other_form : (b : Bool) → has_other_form form old ≡ b → IsRecodedBy form q old
    by_other_form true some = record {
      characters = with_form form (chars old);
      spelt = ap (λ b. cond b (encode_utf8_all (with_form form (chars old))) old) some;
      balanced = form_fits form q (chars old) fit;
    }
    by_other_form false none = record {
      characters = chars old;
      spelt = same_text form old none ∙ sym (encodes-chars old utf8);
      balanced = fit;
    }

-- ---- numbers have no commands, and no characters beyond ASCII

digit_small : (c : ℕ) → is_ascii_digit c ≡ true → c < 58
digit_small c digit = grind (arith, nat_tests)

small_stays : (form : Form) (c : ℕ) → c < 92 → is_other_form form c ≡ false
small_stays Characters c small = ne_eqb c 92 (λ same. omega (arith, same, small))
small_stays Commands c small = ap not (lt-ltb c 128 (omega (arith, small)))

module _ (form : Form) where
  char_then : {u w v : Place} (c : ℕ) → CharAt u c w → c < 92 → Ahead w v → v.at ≤ length u.text
      → has_other_form form (between w v) ≡ false → has_other_form form (between u v) ≡ false
  char_then {u} {w} {v} c char small ahead within none =
      ap (has_other_form form)
      (char_parted char ahead within ∙ ap (λ t. t ++ between w v) (encode_ascii c (omega (arith, small))))
      ∙ ap (λ b. b || has_other_form form (between w v)) (small_stays form c small) ∙ none

  run_plain : {u v : Place} → Run is_ascii_digit u v → v.at ≤ length u.text → has_other_form form (between u v) ≡ false
  run_plain {u} stop within = ap (has_other_form form) (none_between u)
  run_plain {u} {v} (step {c = c} char digit rest) within =
      char_then c char (omega (arith, digit_small c digit)) (ahead_run rest) within
      (run_plain rest (omega (arith, within, ap length char.same)))

  none_append : (xs ys : List ℕ) → has_other_form form xs ≡ false → has_other_form form ys ≡ false
      → has_other_form form (xs ++ ys) ≡ false
  none_append [] ys none others = others
  none_append (x ∷ xs) ys none others = by_first (is_other_form form x) none (λ rest. none_append xs ys rest others)
    where
      by_first : (b : Bool) → b || has_other_form form xs ≡ false
          → (has_other_form form xs ≡ false → has_other_form form (xs ++ ys) ≡ false)
          → b || has_other_form form (xs ++ ys) ≡ false
      by_first true clash more = cc
      by_first false rest more = more rest

  number_plain : {u v : Place} → Number longest u v → v.at ≤ length u.text → has_other_form form (between u v) ≡ false
  number_plain (number.whole {c = c} char digit digits ends) within =
      char_then c char (omega (arith, digit_small c digit)) (ahead_run digits.run) within
      (run_plain digits.run (omega (arith, within, ap length char.same)))
  number_plain {u} {v} (number.broken {v = w} {w = x} {x = y} {c = c} char digit digits point others ends) within =
      let from_point = ahead_then (ahead_char point) (ahead_run others.run) in
      let within' : v.at ≤ length w.text = omega (arith, within, ap length char.same) in
      let up : v.at ≤ length x.text = omega (arith, within', ap length (ahead_run digits.run).text) in
      char_then c char (omega (arith, digit_small c digit)) (ahead_then (ahead_run digits.run) from_point) within
      (ap (has_other_form form) (parted (ahead_run digits.run) from_point within')
      ∙ none_append (between w x) (between x v) (run_plain digits.run (omega (arith, within', from_point.at)))
      (char_then 46 point (omega arith) (ahead_run others.run) up (run_plain others.run (omega (arith, up, ap length point.same)))))

-- ---- one piece

-- a piece parses between two places, except for positions
record IsReadAt (e : Piece) (u v : Place) : Type 0 where
  reading : Piece
  element : Element longest u reading v
  alike : moved_piece (λ n. 0) reading ≡ moved_piece (λ n. 0) e

-- a piece parses again from its output before a character that can end a piece, if neither an opening brace nor a quote was before it
kept_read : {a b u v : Place} {e : Piece} → Element longest a e b → b.at ≤ length a.text → NotOpened a
    → Stands u (piece_as_written Keep a.text e) v → Ending v → IsReadAt e u v
kept_read {a} {b} {u} {v} {e} x within opened s ending = record {
  reading = moved_piece (λ (n : ℕ). n - a.at + u.at) e;
  element = element_stands x within (subst (λ t. Stands u t v) (element_written x opened) s) ending;
  alike = piece_placeless (λ (n : ℕ). n - a.at + u.at) e;
}

choice : (b q : Bool) (x y z : List ℕ) → b ≡ false → q ≡ true → cond b x (cond q y z) ≡ y
choice b q x y z no_brace quote = ap (λ c. cond c x (cond q y z)) no_brace ∙ ap (λ c. cond c y z) quote

module _ (form : Form) where
  -- a literal with the recoded text is the recoded literal, except for positions
  bare_literal : (p : Part) (text : List ℕ) (start end : ℕ) → text ≡ text_recoded form p.text
      → moved_piece (λ n. 0) (literal (record { text = text; start = start; end = end }))
      ≡ moved_piece (λ n. 0) (piece_recoded form (literal p))
  bare_literal p text start end is = ap (λ t. literal (record { text = t; start = 0; end = 0 })) is

  braced_read : {a b u v : Place} {p : Part} → Braced a p b → b.at ≤ length a.text → IsUtf8 a.text
      → Stands u (piece_as_written Keep a.text (piece_recoded form (literal p))) v → IsReadAt (piece_recoded form (literal p)) u v
  braced_read {a} {b} {u} {v} {p} x within utf8 s =
      let i = x.inside in
      let f = x.following in
      let old : List ℕ = between i f in
      let end : f.at ≤ length i.text =
      omega (arith, within, ap length x.opens.same, (ahead_char x.closes).at) in
      let here : IsUtf8 i.text = subst IsUtf8 (sym x.opens.same) utf8 in
      let old_utf8 : IsUtf8 old =
      IsUtf8-between i.text i.at f.at here (ahead_parts x.parts).at (cut_stood i.text refl (stood_parts x.parts (stood x.closes)))
      (cut_stood i.text (ahead_parts x.parts).text (stood x.closes)) in
      let t = recoded_by form false old old_utf8 (parts_fit x.parts end old_utf8) in
      let new : List ℕ = encode_utf8_all t.characters in
      let written : piece_as_written Keep a.text (piece_recoded form (literal p)) ≡ 123 ∷ (new ++ 125 ∷ []) =
      ap (λ r. piece_as_written Keep a.text (piece_recoded form (literal r))) x.reading
      ∙ ap (λ tx. piece_as_written Keep tx (piece_recoded form (literal (part i f)))) (sym x.opens.same)
      ∙ ap
      (λ c.
      cond c (123 ∷ (text_recoded form old ++ 125 ∷ []))
      (cond (ends_with eqb (before i) (codes "\"")) (34 ∷ (text_recoded form old ++ 34 ∷ [])) (text_recoded form old)))
      (brace_before x.opens)
      ∙ ap (λ n. 123 ∷ (n ++ 125 ∷ [])) t.spelt in
      let s0 = subst (λ n. Stands u n v) written s in
      let s1 = last_part (123 ∷ []) (new ++ 125 ∷ []) s0 in
      let one : Place = past u (123 ∷ []) in
      let two : Place = past one new in
      let inner : Stands one new two = first_part new (125 ∷ []) s1 in
      record {
        reading = literal (part one two);
        element =
            element.braced
            (record {
              inside = one;
              following = two;
              opens = ascii 123 (omega arith) (first_part (123 ∷ []) (new ++ 125 ∷ []) s0);
              parts = parts_stand t.characters inner t.balanced;
              closes = ascii 125 (omega arith) (last_part new (125 ∷ []) s1);
              reading = refl;
            });
        alike =
            bare_literal p (between one two) one.at two.at
            (between_stands new inner ∙ sym t.spelt ∙ ap (λ r. text_recoded form r.text) (sym x.reading));
      }

  quoted_read : {a b u v : Place} {p : Part} → Quoted a p b → b.at ≤ length a.text → IsUtf8 a.text
      → Stands u (piece_as_written Keep a.text (piece_recoded form (literal p))) v → IsReadAt (piece_recoded form (literal p)) u v
  quoted_read {a} {b} {u} {v} {p} x within utf8 s =
      let i = x.inside in
      let f = x.following in
      let old : List ℕ = between i f in
      let end : f.at ≤ length i.text =
      omega (arith, within, ap length x.opens.same, (ahead_char x.closes).at) in
      let here : IsUtf8 i.text = subst IsUtf8 (sym x.opens.same) utf8 in
      let old_utf8 : IsUtf8 old =
      IsUtf8-between i.text i.at f.at here (ahead_quoted_parts x.parts).at
      (cut_stood i.text refl (stood_quoted x.parts (stood x.closes)))
      (cut_stood i.text (ahead_quoted_parts x.parts).text (stood x.closes)) in
      let t = recoded_by form true old old_utf8 (quoted_fit x.parts end old_utf8) in
      let new : List ℕ = encode_utf8_all t.characters in
      let is = quote_before x.opens in
      let written : piece_as_written Keep a.text (piece_recoded form (literal p)) ≡ 34 ∷ (new ++ 34 ∷ []) =
      ap (λ r. piece_as_written Keep a.text (piece_recoded form (literal r))) x.reading
      ∙ ap (λ tx. piece_as_written Keep tx (piece_recoded form (literal (part i f)))) (sym x.opens.same)
      ∙ choice (ends_with eqb (before i) (codes "{")) (ends_with eqb (before i) (codes "\""))
      (123 ∷ (text_recoded form old ++ 125 ∷ [])) (34 ∷ (text_recoded form old ++ 34 ∷ [])) (text_recoded form old) is.0 is.1
      ∙ ap (λ n. 34 ∷ (n ++ 34 ∷ [])) t.spelt in
      let s0 = subst (λ n. Stands u n v) written s in
      let s1 = last_part (34 ∷ []) (new ++ 34 ∷ []) s0 in
      let one : Place = past u (34 ∷ []) in
      let two : Place = past one new in
      let inner : Stands one new two = first_part new (34 ∷ []) s1 in
      record {
        reading = literal (part one two);
        element =
            element.quoted
            (record {
              inside = one;
              following = two;
              opens = ascii 34 (omega arith) (first_part (34 ∷ []) (new ++ 34 ∷ []) s0);
              parts = quoted_stand t.characters inner t.balanced;
              closes = ascii 34 (omega arith) (last_part new (34 ∷ []) s1);
              reading = refl;
            });
        alike =
            bare_literal p (between one two) one.at two.at
            (between_stands new inner ∙ sym t.spelt ∙ ap (λ r. text_recoded form r.text) (sym x.reading));
      }

  element_read : {a b u v : Place} {e : Piece} → Element longest a e b → b.at ≤ length a.text → NotOpened a → IsUtf8 a.text
      → Stands u (piece_as_written Keep a.text (piece_recoded form e)) v → Ending v → IsReadAt (piece_recoded form e) u v
  element_read {a} {b} {u} {v} (element.number n) within opened utf8 s ending =
      let same : piece_recoded form (literal (part a b)) ≡ literal (part a b) =
      ap (λ t. literal (record (part a b) { text = t })) (same_text form (between a b) (number_plain form n within)) in
      subst (λ e. IsReadAt e u v) (sym same)
      (kept_read (element.number n) within opened (subst (λ e. Stands u (piece_as_written Keep a.text e) v) same s) ending)
  element_read (element.named none i) within opened utf8 s ending = kept_read (element.named none i) within opened s ending
  element_read (element.braced b) within opened utf8 s ending = braced_read b within utf8 s
  element_read (element.quoted q) within opened utf8 s ending = quoted_read q within utf8 s

  -- ---- the pieces of a value

  recoded_read : (text : List ℕ) (e : Piece) {u v : Place} → IsUtf8 text → IsElement text e
      → Stands u (piece_as_written Keep text (piece_recoded form e)) v → Ending v → IsReadAt (piece_recoded form e) u v
  recoded_read text e {u} {v} utf8 x s ending =
      element_read x.stands x.within x.opened (subst IsUtf8 (sym x.same) utf8)
      (subst (λ t. Stands u (piece_as_written Keep t (piece_recoded form e)) v) (sym x.same) s) ending

  -- the text of some recoded pieces with the separator before each of them
  abbrev laid_out_more : List ℕ → List Piece → List ℕ
  laid_out_more text es = value_laid_out (codes " # ") (codes " # ") (map (piece_as_written Keep text) (map (piece_recoded form) es))

  pieces_read : (text : List ℕ) (e : Piece) (es : List Piece) (u v w : Place) → IsUtf8 text → IsElement text e
      → AllByRecursion (IsElement text) es → Stands u (piece_as_written Keep text (piece_recoded form e) ++ laid_out_more text es) v
      → Ending v → Longest is_whitespace v w → Stops (λ c. c == 35) w → AreRead (map (piece_recoded form) (e ∷ es)) u w
  pieces_read text e [] u v w utf8 x all s ending over no_hash =
      let here =
      recoded_read text e utf8 x (subst (λ t. Stands u t v) (append-nil (piece_as_written Keep text (piece_recoded form e))) s) ending in
      record { reading = here.reading ∷ []; elements = elements.last here.element over no_hash; alike = ap (λ p. p ∷ []) here.alike }
  pieces_read text e (f ∷ es) u v w utf8 x all s ending over no_hash =
      let written : List ℕ = piece_as_written Keep text (piece_recoded form e) in
      let rest : List ℕ = piece_as_written Keep text (piece_recoded form f) ++ laid_out_more text es in
      let first = first_part written (codes " # " ++ rest) s in
      let s1 = last_part written (codes " # " ++ rest) s in
      let space = ascii 32 (omega arith) (first_part (32 ∷ []) (35 ∷ 32 ∷ rest) s1) in
      let s2 = last_part (32 ∷ []) (35 ∷ 32 ∷ rest) s1 in
      let sign = ascii 35 (omega arith) (first_part (35 ∷ []) (32 ∷ rest) s2) in
      let s3 = last_part (35 ∷ []) (32 ∷ rest) s2 in
      let space' = ascii 32 (omega arith) (first_part (32 ∷ []) rest s3) in
      let s4 = last_part (32 ∷ []) rest s3 in
      let others = pieces_read text f es _ v w utf8 all.0 all.1 s4 ending over no_hash in
      let here =
      recoded_read text e utf8 x first
      (record { char = 32; next = _; here = space; no_name = refl; no_digit = refl; no_point = refl }) in
      let opens = elements_opens others.elements in
      record {
        reading = here.reading ∷ others.reading;
        elements =
            elements.more here.element (record { run = step space refl stop; stops = stops_at is_whitespace sign refl }) sign
            (record { run = step space' refl stop; stops = stops_at is_whitespace opens.here opens.dark })
            others.elements;
        alike = ap (λ p. p ∷ map (moved_piece (λ n. 0)) others.reading) here.alike
            ∙ ap (λ ps. moved_piece (λ n. 0) (piece_recoded form e) ∷ ps) others.alike;
      }

  -- the output for the recoded pieces of a value in a UTF-8 text parses to them
  pub can_be_read : (text : List ℕ) (es : List Piece) → IsUtf8 text → IsSome es → AllByRecursion (IsElement text) es
      → CanBeRead (record { bytes = laid_out text (map (piece_recoded form) es); pieces = map (piece_recoded form) es })
  can_be_read text [] utf8 some all = absurd some
  can_be_read text (e ∷ es) utf8 some all =
      λ u v w s ending over no_hash. pieces_read text e es u v w utf8 all.0 all.1 s ending over no_hash
