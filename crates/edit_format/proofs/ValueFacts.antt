-- A value in a new layout parses to the same pieces, except for spans.
use Rattle.std.proofs.Common.{◌≡◌, inl, inr, ℕ, ◌+◌, ◌<◌, ◌≤◌, Bool, true, false, List, [], ◌∷◌, ◌++◌, length, drop, map, codes, refl, sym, ap, ◌∙◌, subst, arith, append_assoc, length-append}
use Rattle.std.specs.Prelude.{◌==◌}
use Rattle.std.specs.Char.{is_whitespace, len_utf8}
use Rattle.std.specs.List.{ends_with}
use lib.Dec.{eqb}
use Rattle.std.proofs.lemmas.Bool.{cases_lt}
use Rattle.std.proofs.lemmas.Bool.Decides.{Decides-eqb}
use Rattle.std.proofs.lemmas.List.{append-nil, drop_at}
use Rattle.std.proofs.lemmas.Slice.Eq.{ends_is}
use Rattle.std.proofs.lemmas.Str.{len_utf8_bounds}
use Rattle.bib_text.specs.Places.{Place, place, CharAt, Run, Stops, Longest}
use Rattle.bib_text.specs.Places.Run.{stop, step}
use Rattle.bib_text.proofs.PlaceFacts.{ahead_then, ahead_char, ahead_run, same_char, same_place, stops_at, test_clash, char_within}
use Rattle.bib_syntax.specs.Reading.{Piece}
use Rattle.bib_syntax.specs.Grammar.{Element, Elements, longest}
use Rattle.bib_syntax.specs.Grammar.{Number as number}
use Rattle.bib_syntax.specs.Grammar.{Element as element}
use Rattle.bib_syntax.specs.Grammar.{Elements as elements}
use Rattle.bib_syntax.proofs.FieldFacts.{ahead_element, ahead_elements}
use Rattle.bib_syntax.proofs.LawFacts.{start_not_white}
use Rattle.edit_entries.specs.Edits.{moved_piece}
use Rattle.bib_text.proofs.BoundaryFacts.{not_over}
use Rattle.bib_text.proofs.DigitFacts.{digit_dark}
use Rattle.edit_entries.proofs.EditFacts.{ascii_stands}
use Rattle.edit_format.specs.Delimited.{piece_as_written}
use Rattle.edit_format.specs.Formatted.{value_laid_out}
use Rattle.edit_format.specs.declared.style.Delimiters.{Delimiters}
use Rattle.edit_entries.proofs.ElementFacts.{Ending, NotOpened, before, start_stands}
use Rattle.edit_format.proofs.PieceFacts.{piece_read}
use Rattle.edit_entries.proofs.StandsFacts.{AreWhite, Stands, ascii, first_part, last_part, past, run_white}

-- ---- the text before a piece

-- a text whose last character is another one doesn't end with this ASCII byte
no_other : {y u : Place} {d : ℕ} (c : ℕ) → c < 128 → CharAt y d u → (d ≡ c → ⊥) → (front : List ℕ) → before u ≡ front ++ c ∷ [] → ⊥
no_other {y} {u} {d} c small char other front is =
    let within : u.at ≤ length u.text = char_within char in
    let all = start_stands u within in
    let n : ℕ = length front in
    let size : u.at ≡ n + 1 = omega (arith, all.next, ap length is, length-append front (c ∷ [])) in
    let text : drop 0 u.text ≡ front ++ (c ∷ drop u.at u.text) =
    all.here ∙ ap (λ t. t ++ drop u.at u.text) is ∙ append_assoc front (c ∷ []) (drop u.at u.text) in
    let here : drop n u.text ≡ c ∷ drop u.at u.text = ap (drop n) text ∙ drop_at front (c ∷ drop u.at u.text) n refl in
    let stands = ascii_stands u.text (drop u.at u.text) n c small here in
    let width : 1 ≤ len_utf8 d = (len_utf8_bounds d).0 in
    elim (cases_lt y.at n) [
      | inl low ↦ omega (arith, not_over u.text n (inr (c, place u.text (n + 1), stands)) (sym char.same) char low, size)
      | inr high ↦
          let at : y.at ≡ n = omega (arith, char.next, size, width, high) in
          other (same_char char (subst (λ p. CharAt p c (place u.text (n + 1))) (same_here y u n at char.same) stands)).0
    ]
  where
    same_here : (y u : Place) (n : ℕ) → y.at ≡ n → u.text ≡ y.text → place u.text n ≡ y
    same_here y u n at same = same_place {u = place u.text n} {v = y} same (sym at)

not_ended : {y u : Place} {d : ℕ} (c : ℕ) → c < 128 → CharAt y d u → (d ≡ c → ⊥) → ends_with eqb (before u) (c ∷ []) ≡ false
not_ended {y} {u} {d} c small char other = by_value (ends_with eqb (before u) (c ∷ [])) refl
  where
    by_value : (b : Bool) → ends_with eqb (before u) (c ∷ []) ≡ b → ends_with eqb (before u) (c ∷ []) ≡ false
    by_value true is =
        absurd
        (no_other c small char other _
        ((ends_is Decides-eqb (before u) (c ∷ []) (ends_with eqb (before u) (c ∷ [])) refl).0 is))
    by_value false is = is

-- a piece after white space is after neither an opening brace nor a quote
pub not_opened_white : {y u : Place} {d : ℕ} → CharAt y d u → is_whitespace d ≡ true → NotOpened u
not_opened_white char white = record {
  no_brace = not_ended 123 (omega arith) char (λ same. test_clash false (subst (λ c. is_whitespace c ≡ true) same white) refl);
  no_quote = not_ended 34 (omega arith) char (λ same. test_clash false (subst (λ c. is_whitespace c ≡ true) same white) refl);
}

pub not_opened_run : {x u : Place} → NotOpened x → Run is_whitespace x u → NotOpened u
not_opened_run opened stop = opened
not_opened_run opened (step char white rest) = not_opened_run (not_opened_white char white) rest

pub not_opened_sign : {y u : Place} (c : ℕ) → c < 128 → (c ≡ 123 → ⊥) → (c ≡ 34 → ⊥) → CharAt y c u → NotOpened u
not_opened_sign c small a b char = record { no_brace = not_ended 123 (omega arith) char a; no_quote = not_ended 34 (omega arith) char b }

-- ---- values

element_dark : {u v : Place} {e : Piece} → Element longest u e v → Stops is_whitespace u
element_dark (element.number (number.whole {c = c} char digit digits ends)) = stops_at is_whitespace char (digit_dark c digit)
element_dark (element.number (number.broken {c = c} char digit digits point others ends)) =
    stops_at is_whitespace char (digit_dark c digit)
element_dark (element.named none i) = stops_at is_whitespace i.here (start_not_white i.first i.starts)
element_dark (element.braced b) = stops_at is_whitespace b.opens refl
element_dark (element.quoted q) = stops_at is_whitespace q.opens refl

-- ---- the text between two pieces

-- a separator is white space, `#` and a space, and a piece ends before it
pub record IsSeparator (next : List ℕ) : Type 0 where
  pub white : List ℕ
  pub is : next ≡ white ++ 35 ∷ 32 ∷ []
  pub all : AreWhite white
  pub ending : (u v : Place) (rest : List ℕ) → Stands u (next ++ rest) v → Ending u

pub in_line : IsSeparator (codes " # ")
in_line = record {
  white = 32 ∷ [];
  is = refl;
  all = ((omega arith, refl), _);
  ending = λ u v rest s.
      record {
        char = 32;
        next = _;
        here = ascii 32 (omega arith) (first_part (32 ∷ []) (35 ∷ 32 ∷ rest) s);
        no_name = refl;
        no_digit = refl;
        no_point = refl;
      };
}

-- a separator between two places of a text
record Separated (u v : Place) : Type 0 where
  to_hash : Place
  past_hash : Place
  before_space : Run is_whitespace u to_hash
  hash : CharAt to_hash 35 past_hash
  space : CharAt past_hash 32 v

separated : {next : List ℕ} {u v : Place} → IsSeparator next → Stands u next v → Separated u v
separated {next} {u} {v} sep s =
    let s' : Stands u (sep.white ++ 35 ∷ 32 ∷ []) v = subst (λ t. Stands u t v) sep.is s in
    let rest = last_part sep.white (35 ∷ 32 ∷ []) s' in
    record {
      to_hash = past u sep.white;
      past_hash = past (past u sep.white) (35 ∷ []);
      before_space = run_white sep.white sep.all (first_part sep.white (35 ∷ 32 ∷ []) s');
      hash = ascii 35 (omega arith) (first_part (35 ∷ []) (32 ∷ []) rest);
      space = ascii 32 (omega arith) (last_part (35 ∷ []) (32 ∷ []) rest);
    }

-- a value without the separator before its first piece
abbrev pub unsigned : List ℕ → List (List ℕ) → List ℕ
unsigned next [] = []
unsigned next (t ∷ ts) = t ++ value_laid_out next next ts

-- the outputs for some pieces
abbrev pub written : Delimiters → List ℕ → List Piece → List (List ℕ)
written way text es = map (piece_as_written way text) es

pub signed : {u v : Place} {es : List Piece} (first next : List ℕ) (way : Delimiters) (text : List ℕ)
    → Elements longest u es v
    → value_laid_out first next (written way text es) ≡ first ++ unsigned next (written way text es)
signed first next way text (elements.last e white ends) = refl
signed first next way text (elements.more e white hash white' rest) = refl

-- the pieces of a value parse from their output in another text, and their output there is the same
pub record ValueRead (way : Delimiters) (text : List ℕ) (es : List Piece) (u v : Place) : Type 0 where
  pub reading : List Piece
  pub elements : Elements longest u reading v
  pub alike : map (moved_piece (λ n. 0)) reading ≡ map (moved_piece (λ n. 0)) es
  pub again : written way u.text reading ≡ written way text es
  pub dark : Stops is_whitespace u

pub value_read : {next : List ℕ} (way : Delimiters) {a b u v w : Place} {es : List Piece} → IsSeparator next
    → Elements longest a es b → NotOpened a → b.at ≤ length a.text → Stands u (unsigned next (written way a.text es)) v
    → NotOpened u → Ending v
    → Longest is_whitespace v w → Stops (λ c. c == 35) w → ValueRead way a.text es u w
value_read {next} way {a} {b} {u} {v} {w} sep (elements.last {v = a'} {e = e} x white ends) opened within s opened' ending over no_hash =
    let up : a'.at ≤ length a.text = omega (arith, within, (ahead_run white.run).at) in
    let p = piece_read way x opened up (subst (λ t. Stands u t v) (append-nil (piece_as_written way a.text e)) s) opened' ending in
    record {
      reading = p.reading ∷ [];
      elements = elements.last p.element over no_hash;
      alike = ap (λ q. q ∷ []) p.alike;
      again = ap (λ t. t ∷ []) p.again;
      dark = element_dark p.element;
    }
value_read {next} way {a} {b} {u} {v} {w} sep
    (elements.more {v = a1} {w = a2} {x = a3} {y = a4} {e = e} {es = es} x white hash white' rest) opened within s
    opened' ending over no_hash =
    let to_hash = ahead_run white.run in
    let past_hash = ahead_then (ahead_char hash) (ahead_run white'.run) in
    let to_rest = ahead_then (ahead_element x) (ahead_then to_hash past_hash) in
    let up : a1.at ≤ length a.text = omega (arith, within, to_hash.at, past_hash.at, (ahead_elements rest).at) in
    let same : a4.text ≡ a.text = to_rest.text in
    let within' : b.at ≤ length a4.text = omega (arith, within, ap length same) in
    let opened_rest : NotOpened a4 =
    not_opened_run (not_opened_sign 35 (omega arith) (λ clash. omega arith) (λ clash. omega arith) hash) white'.run in
    let piece : List ℕ = piece_as_written way a.text e in
    let others : List ℕ = unsigned next (written way a4.text es) in
    let text_is : unsigned next (written way a.text (e ∷ es)) ≡ piece ++ (next ++ others) =
    ap (λ t. piece ++ t)
    (signed next next way a.text rest ∙ ap (λ t. next ++ unsigned next (written way t es)) (sym same)) in
    let s0 : Stands u (piece ++ (next ++ others)) v = subst (λ t. Stands u t v) text_is s in
    let s1 = last_part piece (next ++ others) s0 in
    let p1 = past u piece in
    let p2 = past p1 next in
    let between_them = separated sep (first_part next others s1) in
    let more =
    value_read way sep rest opened_rest within' (last_part next others s1)
    (not_opened_white between_them.space refl) ending over no_hash in
    let p = piece_read way x opened up (first_part piece (next ++ others) s0) opened' (sep.ending p1 v others s1) in
    record {
      reading = p.reading ∷ more.reading;
      elements =
          elements.more p.element
          (record { run = between_them.before_space; stops = stops_at is_whitespace between_them.hash refl })
          between_them.hash
          (record { run = step between_them.space refl stop; stops = more.dark }) more.elements;
      alike = ap (λ q. q ∷ map (moved_piece (λ n. 0)) more.reading) p.alike ∙ ap (λ qs. moved_piece (λ n. 0) e ∷ qs) more.alike;
      again = ap (λ t. t ∷ written way u.text more.reading) p.again ∙ ap (λ ts. piece ∷ ts) (more.again ∙ ap (λ t. written way t es) same);
      dark = element_dark p.element;
    }
