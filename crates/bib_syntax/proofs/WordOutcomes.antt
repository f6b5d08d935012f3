-- Each word matches or fails: names, numbers, and texts in quotes and braces.
use Rattle.std.proofs.Common.{◌≡◌, ◌⊎◌, ℕ, zero, suc, ◌≤◌, arith, Bool, true, false, inl, inr, refl, Some, None}
use Rattle.std.specs.Prelude.{◌||◌, ◌==◌}
use Rattle.std.specs.Char.{is_ascii_digit}
use Rattle.std.proofs.lemmas.Bool.{cases_Bool}
use Rattle.bib_text.specs.Places.{Place, CharAt, Run, Longest, AtEnd}
use Rattle.bib_text.specs.Places.Run.{step}
use Rattle.bib_text.specs.Braces.{Parts, is_plain}
use Rattle.bib_text.proofs.BraceFacts.{closes_zero}
use Rattle.bib_text.proofs.PlaceFacts.{no_char_at_end, pass_clash, run_one, stops_at, stops_at_end}
use Rattle.bib_syntax.specs.Characters.{is_id_start, is_id_continue}
use Rattle.bib_text.specs.OpenBraces.{ClosesOpen}
use Rattle.bib_syntax.specs.OpenBraces.{SameBraced}
use Rattle.bib_syntax.specs.Reading.{Part, part, Piece}
use Rattle.bib_syntax.specs.Grammar.{Identifier, Number, QuotedParts, Quoted, Braced, NoDigit, Element, longest}
use Rattle.bib_syntax.specs.Grammar.{Number as number}
use Rattle.bib_syntax.specs.Grammar.{Element as element}
use Rattle.bib_syntax.specs.SyntaxErrors.{IdentifierFails, NumberFails, QuotedFails, BracedFails, ElementFails, begins_element}
use Rattle.bib_syntax.specs.SyntaxErrors.{IdentifierFails as identifier_fail}
use Rattle.bib_syntax.specs.SyntaxErrors.{NumberFails as number_fail}
use Rattle.bib_syntax.specs.SyntaxErrors.{QuotedFails as quoted_fail}
use Rattle.bib_syntax.specs.SyntaxErrors.{BracedFails as braced_fail}
use Rattle.bib_syntax.specs.SyntaxErrors.{ElementFails as element_fail}
use Rattle.bib_syntax.proofs.BraceFacts as brace
use Rattle.bib_syntax.proofs.QuoteFacts as quote
use Rattle.bib_syntax.proofs.QuoteFacts.{is_quotable, SameQuoted}
use Rattle.bib_syntax.proofs.LeftFacts.{Left, RuleEnd, found_at, found_as, Outcome, outcome_within, run_found, First, first, Sign, sign, is_sign}

-- ---- names and numbers

-- a name from one place to the other
abbrev pub NameAt : Place → Place → Type 0
NameAt u v = Identifier longest u (part u v) v

-- a name matches at a character that can begin one
name_found : {n : ℕ} {u v : Place} {c : ℕ} → CharAt u c v → is_id_start c ≡ true → Left n v → RuleEnd n (NameAt u)
name_found char starts rest =
    let run = run_found is_id_continue rest in
    found_as (omega arith) run (record { second = _; first = _; here = char; starts = starts; rest = run.rule; reading = refl })

-- a name matches, or it is missing if the first character can't begin one
name_first : {n : ℕ} {u : Place} → First is_id_start n u → Outcome n (NameAt u) (IdentifierFails u)
name_first (First.passes char starts rest less) =
    let name = name_found char starts rest in
    Outcome.read (found_as (omega (arith, less)) name name.rule)
name_first (First.stops none) = Outcome.fails (identifier_fail.missing none)

-- a name matches or is missing
pub name_outcome : {n : ℕ} {u : Place} → Left n u → Outcome n (NameAt u) (IdentifierFails u)
name_outcome left = name_first (first is_id_start left)

-- a number whose first digit is known matches or has a second point
number_outcome : {n : ℕ} {u v : Place} {c : ℕ} → CharAt u c v → is_ascii_digit c ≡ true → Left n v
    → Outcome n (Number longest u) (NumberFails u)
number_outcome {u = u} char digit rest =
    let run = run_found is_ascii_digit rest in
    elim (sign 46 run.rest) [
      | Sign.missing stops ↦ Outcome.read (found_as (omega arith) run (number.whole char digit run.rule stops))
      | Sign.here point rest' less ↦
          let more = run_found is_ascii_digit rest' in
          elim (sign 46 more.rest) [
            | Sign.missing stops' ↦
                Outcome.read (found_as (omega (arith, less, run.fits)) more (number.broken char digit run.rule point more.rule stops'))
            | Sign.here second rest'' less' ↦
                let digits : Longest is_ascii_digit u run.place = record { run = step char digit run.rule.run; stops = run.rule.stops } in
                Outcome.fails (number_fail.second_point digits point more.rule second)
          ]
    ]

-- ---- texts in quotes

-- parts of a quoted text from `u`, and a closing quote after them up to `x`
abbrev QuoteClosed : Place → Place → Type 0
QuoteClosed u x = (v : Place) × QuotedParts u v × CharAt v 34 x

-- no quote closes the text from `u`
abbrev NoQuote : Place → Type 0
NoQuote u = (w x : Place) → QuotedParts u w → CharAt w 34 x → ⊥

-- a quote closes the text from `u`, or none does
abbrev QuoteCase : ℕ → Place → Type 0
QuoteCase n u = RuleEnd n (QuoteClosed u) ⊎ NoQuote u

-- if the texts from `u` and from `v` have the same closing quotes, `QuoteCase` from `v` gives `QuoteCase` from `u`
quote_moved : {m n : ℕ} {u v : Place} → m ≤ n → SameQuoted u v → QuoteCase m v → QuoteCase n u
quote_moved fits same (inl f) = inl (found_as fits f (f.rule.0, same.there _ _ f.rule.1 f.rule.2, f.rule.2))
quote_moved fits same (inr none) = inr (λ w x p c. none w x (same.back w x p c) c)

-- `QuoteCase` at a character follows from `QuoteCase` after it and, if it is a backslash, after the character that it escapes
quote_step : {m n : ℕ} {u v w : Place} {c : ℕ} → CharAt u c v → Left n v → QuoteCase n v
    → (CharAt u 92 v → SameQuoted u w) → m ≤ n → QuoteCase m w → QuoteCase (suc n) u
quote_step {u = u} {v = v} {c = c} char rest here hides fits hidden = elim (cases_Bool (c == 34)) [
  | inl is_quote ↦ inl (found_at (omega arith) rest (u, QuotedParts.none, is_sign 34 char is_quote))
  | inr no_quote ↦ elim (cases_Bool (c == 92)) [
    | inl is_slash ↦ quote_moved (omega (arith, fits)) (hides (is_sign 92 char is_slash)) hidden
    | inr no_slash ↦
        let run : Run is_quotable u v = run_one char (rw (no_quote, no_slash)) in
        quote_moved (omega arith) (quote.quoted_run run) here
  ]
]

-- `QuoteCase` at the end of a text: no quote follows
quote_end : {n : ℕ} {u : Place} → AtEnd u → QuoteCase n u
quote_end end = inr (λ w x. quote.quoted_stuck (stops_at_end is_quotable end) (λ v. no_char_at_end end) (λ v. no_char_at_end end))

-- from each place with `Left`, a quote closes the text or none does
quote_case : {n : ℕ} {u : Place} → Left n u → QuoteCase n u
quote_case (Left.none end) = quote_end end
quote_case (Left.more {n = n} char (Left.none end)) =
    quote_step {m = n} char (Left.none end) (quote_end end) (λ slash. quote.quoted_hidden None slash (end, refl))
    (omega arith) (quote_end end)
quote_case (Left.more char (Left.more {c = d} next rest)) =
    let here = quote_case (Left.more next rest) in
    quote_step char (Left.more next rest) here (λ slash. quote.quoted_hidden (Some d) slash next) (omega arith) (quote_case rest)

-- a quoted text from one place to the other
abbrev pub QuotedAt : Place → Place → Type 0
QuotedAt u v = (p : Part) × Quoted u p v

-- a quoted text whose first quote is known matches or fails
quoted_opened : {n : ℕ} {u v : Place} → CharAt u 34 v → QuoteCase n v → Outcome n (QuotedAt u) (QuotedFails u)
quoted_opened {u = u} {v = v} opens (inl f) =
    let quoted : Quoted u (part v f.rule.0) f.place = record {
      inside = _;
      following = f.rule.0;
      opens = opens;
      parts = f.rule.1;
      closes = f.rule.2;
      reading = refl;
    } in
    Outcome.read (found_as (omega arith) f (_, quoted))
quoted_opened opens (inr none) = Outcome.fails (quoted_fail.unclosed opens none)

-- a quoted text matches or fails
pub quoted_outcome : {n : ℕ} {u : Place} → Left n u → Outcome n (QuotedAt u) (QuotedFails u)
quoted_outcome left = elim (sign 34 left) [
  | Sign.missing stops ↦ Outcome.fails (quoted_fail.missing stops)
  | Sign.here opens rest less ↦ outcome_within (omega (arith, less)) (quoted_opened opens (quote_case rest))
]

-- ---- texts in braces

-- text that closes `depth` open braces from `u`, and one more closing brace after it up to `y`
abbrev BraceClosed : ℕ → Place → Place → Type 0
BraceClosed depth u y = (x : Place) × ClosesOpen depth u x × CharAt x 125 y

-- no text from `u` that closes `depth` open braces is followed by another closing brace
abbrev NoBrace : ℕ → Place → Type 0
NoBrace depth u = (x y : Place) → ClosesOpen depth u x → CharAt x 125 y → ⊥

-- a brace closes the text from `u` after `depth` closed braces, or none does
abbrev BraceCase : ℕ → ℕ → Place → Type 0
BraceCase depth n u = RuleEnd n (BraceClosed depth u) ⊎ NoBrace depth u

-- if the texts from `u` and from `v` have the same closing braces, `BraceCase` from `v` gives `BraceCase` from `u`
brace_moved : {depth inner m n : ℕ} {u v : Place} → m ≤ n → SameBraced depth u inner v → BraceCase inner m v → BraceCase depth n u
brace_moved fits same (inl f) = inl (found_as fits f (f.rule.0, same.there _ _ f.rule.1 f.rule.2, f.rule.2))
brace_moved fits same (inr none) = inr (λ x y p c. none x y (same.back x y p c) c)

-- `BraceCase` at a closing brace follows from `BraceCase` after it for each number of open braces
brace_closes : (depth : ℕ) {n : ℕ} {u v : Place} → CharAt u 125 v → Left n v → ((inner : ℕ) → BraceCase inner n v)
    → BraceCase depth (suc n) u
brace_closes zero {u = u} close rest here = inl (found_at (omega arith) rest (u, ClosesOpen.last Parts.none, close))
brace_closes (suc depth) close rest here = brace_moved (omega arith) (brace.braced_close depth close) (here depth)

-- `BraceCase` at a character follows from `BraceCase` after it and, if it is a backslash, after the character that it escapes
brace_step : (depth : ℕ) {m n : ℕ} {u v w : Place} {c : ℕ} → CharAt u c v → Left n v → ((inner : ℕ) → BraceCase inner n v)
    → (CharAt u 92 v → SameBraced depth u depth w) → m ≤ n → BraceCase depth m w → BraceCase depth (suc n) u
brace_step depth {u = u} {v = v} {c = c} char rest here hides fits hidden = elim (cases_Bool (c == 123)) [
  | inl opens ↦ brace_moved (omega arith) (brace.braced_open depth (is_sign 123 char opens)) (here (suc depth))
  | inr no_open ↦ elim (cases_Bool (c == 125)) [
    | inl closes ↦ brace_closes depth (is_sign 125 char closes) rest here
    | inr no_close ↦ elim (cases_Bool (c == 92)) [
      | inl is_slash ↦ brace_moved (omega (arith, fits)) (hides (is_sign 92 char is_slash)) hidden
      | inr no_slash ↦
          let run : Run is_plain u v = run_one char (rw (no_open, no_close, no_slash)) in
          brace_moved (omega arith) (brace.braced_run depth run) (here depth)
    ]
  ]
]

-- `BraceCase` at the end of a text: no brace follows
brace_end : (depth : ℕ) {n : ℕ} {u : Place} → AtEnd u → BraceCase depth n u
brace_end depth end = inr (λ x y. brace.closes_end end)

-- at each place with `Left` and `depth` open braces, a brace closes the text after these braces are closed, or none does
brace_case : (depth : ℕ) {n : ℕ} {u : Place} → Left n u → BraceCase depth n u
brace_case depth (Left.none end) = brace_end depth end
brace_case depth (Left.more {n = n} char (Left.none end)) =
    brace_step depth {m = n} char (Left.none end) (λ inner. brace_end inner end)
    (λ slash. brace.braced_hidden depth None slash (end, refl))
    (omega arith) (brace_end depth end)
brace_case depth (Left.more char (Left.more {c = d} next rest)) =
    brace_step depth char (Left.more next rest) (λ inner. brace_case inner (Left.more next rest))
    (λ slash. brace.braced_hidden depth (Some d) slash next) (omega arith) (brace_case depth rest)

-- a braced text from one place to the other
abbrev BracedAt : Place → Place → Type 0
BracedAt u v = (p : Part) × Braced u p v

-- a braced text whose opening brace is known matches or fails
braced_opened : {n : ℕ} {u v : Place} → CharAt u 123 v → BraceCase zero n v → Outcome n (BracedAt u) (BracedFails u)
braced_opened {u = u} {v = v} opens (inl f) =
    let parts = closes_zero f.rule.1 in
    let braced : Braced u (part v f.rule.0) f.place = record {
      inside = _;
      following = f.rule.0;
      opens = opens;
      parts = parts;
      closes = f.rule.2;
      reading = refl;
    } in
    Outcome.read (found_as (omega arith) f (_, braced))
braced_opened opens (inr none) = Outcome.fails (braced_fail.unclosed opens (λ w x p c. none w x (ClosesOpen.last p) c))

-- ---- pieces

-- a piece from one place to the other
abbrev pub ElementAt : Place → Place → Type 0
ElementAt u v = (e : Piece) × Element longest u e v

-- the disjunction of four false values is false
no_element : (a b c d : Bool) → a ≡ false → b ≡ false → c ≡ false → d ≡ false → a || b || c || d ≡ false
no_element a b c d first second third fourth = rw (first, second, third, fourth)

-- a piece that begins with a digit matches or fails as its number does
element_number : {n : ℕ} {u v : Place} {c : ℕ} → CharAt u c v → is_ascii_digit c ≡ true → Outcome n (Number longest u) (NumberFails u)
    → Outcome n (ElementAt u) (ElementFails u)
element_number char digit (Outcome.read f) = Outcome.read (found_as (omega arith) f (_, element.number f.rule))
element_number char digit (Outcome.fails f) = Outcome.fails (element_fail.number char digit f)

-- a piece that begins with a brace matches or fails as its braced text does
element_braced : {n : ℕ} {u : Place} → Outcome n (BracedAt u) (BracedFails u) → Outcome n (ElementAt u) (ElementFails u)
element_braced (Outcome.read f) = Outcome.read (found_as (omega arith) f (_, element.braced f.rule.1))
element_braced (Outcome.fails f) = Outcome.fails (element_fail.braced f)

-- a piece that begins with a quote matches or fails as its quoted text does
element_quoted : {n : ℕ} {u v : Place} → CharAt u 34 v → Outcome n (QuotedAt u) (QuotedFails u) → Outcome n (ElementAt u) (ElementFails u)
element_quoted opens (Outcome.read f) = Outcome.read (found_as (omega arith) f (_, element.quoted f.rule.1))
element_quoted opens (Outcome.fails f) = Outcome.fails (element_fail.quoted opens f)

-- a piece that begins with a name but not with a digit matches
element_named : {n : ℕ} {u v : Place} {c : ℕ} → CharAt u c v → is_ascii_digit c ≡ false → RuleEnd n (NameAt u)
    → Outcome n (ElementAt u) (ElementFails u)
element_named {u = u} char no_digit f =
    let none : NoDigit u = λ d w other digit. pass_clash is_ascii_digit other digit char no_digit in
    Outcome.read (found_as (omega arith) f (_, element.named none f.rule))

-- a piece whose first character is known matches or fails
element_step : {n : ℕ} {u v : Place} {c : ℕ} → CharAt u c v → Left n v → Outcome n (ElementAt u) (ElementFails u)
element_step {c = c} char rest = elim (cases_Bool (c == 123)) [
  | inl is_brace ↦ element_braced (braced_opened (is_sign 123 char is_brace) (brace_case zero rest))
  | inr no_brace ↦ elim (cases_Bool (c == 34)) [
    | inl is_quote ↦
        let opens = is_sign 34 char is_quote in
        element_quoted opens (quoted_opened opens (quote_case rest))
    | inr no_quote ↦ elim (cases_Bool (is_ascii_digit c)) [
      | inl digit ↦ element_number char digit (number_outcome char digit rest)
      | inr no_digit ↦ elim (cases_Bool (is_id_start c)) [
        | inl starts ↦ element_named char no_digit (name_found char starts rest)
        | inr no_start ↦
            let missing = stops_at begins_element char (no_element _ _ _ _ no_brace no_quote no_digit no_start) in
            Outcome.fails (element_fail.missing missing)
      ]
    ]
  ]
]

-- a piece matches or fails
pub element_outcome : {n : ℕ} {u : Place} → Left n u → Outcome n (ElementAt u) (ElementFails u)
element_outcome (Left.none end) = Outcome.fails (element_fail.missing (stops_at_end begins_element end))
element_outcome (Left.more char rest) = outcome_within (omega arith) (element_step char rest)
