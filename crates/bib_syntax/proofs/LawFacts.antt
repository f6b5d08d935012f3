-- A text has at most one raw reading. In the mode `longest`, each rule has at most one end and one reading from a place
-- (lemmas `.._same`).
use Rattle.std.proofs.Common.{◌≡◌, ℕ, true, false, List, [], ◌∷◌, refl, sym, ap, ◌∙◌, subst}
use Rattle.std.specs.Prelude.{not, ◌&&◌, ◌||◌, ◌==◌}
use Rattle.std.proofs.lemmas.Bool.{and_parts, ne_eqb, not-true}
use Rattle.std.specs.Char.{is_whitespace, is_control, is_ascii_digit}
use Rattle.bib_text.specs.Places.{Place, CharAt, Longest}
use Rattle.bib_text.specs.Places.Run.{stop}
use Rattle.bib_text.specs.Braces.{Parts}
use Rattle.bib_text.specs.Braces.{Parts as parts}
use Rattle.bib_text.proofs.PlaceFacts.{same_char, char_clash, pass_clash, longest_same, test_clash, stops_at}
use Rattle.bib_text.proofs.BraceFacts.{no_parts}
use Rattle.bib_syntax.specs.Characters.{is_id_start, is_id_continue, is_delimiter, is_key}
use Rattle.bib_syntax.specs.Reading.{Part, part, Piece, FieldReading}
use Rattle.bib_syntax.specs.Reading.Piece.{literal, abbreviation}
use Rattle.bib_syntax.specs.Grammar.{Identifier, Number, QuotedParts, Quoted, Braced, Element, Elements, Field, LineComment, Gap, Fields, longest}
use Rattle.bib_syntax.specs.Grammar.Number.{whole, broken}
use Rattle.bib_syntax.specs.Grammar.{QuotedParts as quotes}
use Rattle.bib_syntax.specs.Grammar.{Element as element}
use Rattle.bib_syntax.specs.Grammar.{Elements as elements}
use Rattle.bib_syntax.specs.Grammar.{Gap as gap}
use Rattle.bib_syntax.specs.Grammar.{Fields as fields}
use Rattle.bib_syntax.proofs.BraceFacts as brace
use Rattle.bib_syntax.proofs.QuoteFacts as quote
use Rattle.bib_syntax.proofs.WordFacts.{not_number, not_name}

-- a rule from one place to another also matches from an equal place
module _ (P : Place → Place → Type 0) where
  pub moved : {u v w : Place} → u ≡ v → P u w → P v w
  moved {u} {v} {w} same p = subst (λ x. P x w) same p

pub identifier_same : {u v w : Place} {p q : Part} → Identifier longest u p v → Identifier longest u q w → (p ≡ q) × (v ≡ w)
identifier_same {u} {v} {w} first second =
    let start = (same_char first.here second.here).1 in
    let end = longest_same (moved (Longest is_id_continue) start first.rest) second.rest in
    (first.reading ∙ ap (part u) end ∙ sym second.reading, end)

pub number_same : {u v w : Place} → Number longest u v → Number longest u w → v ≡ w
number_same (whole c d r e) (whole c' d' r' e') = longest_same (moved (Longest is_ascii_digit) (same_char c c').1 r) r'
number_same {u} {v} {w} (whole c d r e) (broken {x = x} c' d' r' p' s' e') =
    let end = longest_same (moved (Longest is_ascii_digit) (same_char c c').1 r) r' in
    absurd (test_clash true refl (e 46 x (moved (λ a b. CharAt a 46 b) (sym end) p')))
number_same {u} {v} {w} (broken {x = x} c d r p s e) (whole c' d' r' e') =
    let end = longest_same (moved (Longest is_ascii_digit) (same_char c c').1 r) r' in
    absurd (test_clash true refl (e' 46 x (moved (λ a b. CharAt a 46 b) end p)))
number_same (broken c d r p s e) (broken c' d' r' p' s' e') =
    let end = longest_same (moved (Longest is_ascii_digit) (same_char c c').1 r) r' in
    let point = (same_char (moved (λ a b. CharAt a 46 b) end p) p').1 in
    longest_same (moved (Longest is_ascii_digit) point s) s'

pub parts_same : {u v w x y : Place} → Parts u v → CharAt v 125 x → Parts u w → CharAt w 125 y → v ≡ w
parts_same parts.none c second d = no_parts c second
parts_same (parts.plain char p rest) c second d = parts_same rest c (brace.plain_back char p second d) d
parts_same (parts.hidden slash any rest) c second d = parts_same rest c (brace.hidden_back slash any second d) d
parts_same {u} {v} {w} (parts.nested o inner close rest) c second d =
    let opened = brace.opened_parts o second d in
    let end = parts_same inner close opened.2 opened.3 in
    let following = (same_char (moved (λ a b. CharAt a 125 b) end close) opened.3).1 in
    parts_same rest c (moved Parts (sym following) opened.4) d

pub quoted_parts_same : {u v w x y : Place} → QuotedParts u v → CharAt v 34 x → QuotedParts u w → CharAt w 34 y → v ≡ w
quoted_parts_same quotes.none c quotes.none d = refl
quoted_parts_same quotes.none c (quotes.plain char p rest) d = absurd (pass_clash quote.is_quotable char p c refl)
quoted_parts_same quotes.none c (quotes.hidden slash any rest) d = absurd (char_clash c slash refl)
quoted_parts_same (quotes.plain char p rest) c second d = quoted_parts_same rest c (quote.plain_back char p second d) d
quoted_parts_same (quotes.hidden slash any rest) c second d = quoted_parts_same rest c (quote.hidden_back slash any second d) d

-- two parts between equal places are equal
part_same : {u v a b : Place} {p q : Part} → u ≡ a → v ≡ b → p ≡ part u v → q ≡ part a b → p ≡ q
part_same {u} {v} {a} {b} starts ends first second = first ∙ ap (λ x. part x v) starts ∙ ap (part a) ends ∙ sym second

pub braced_same : {u v w : Place} {p q : Part} → Braced u p v → Braced u q w → (p ≡ q) × (v ≡ w)
braced_same {u} {v} {w} first second =
    let starts = (same_char first.opens second.opens).1 in
    let ends = parts_same (moved Parts starts first.parts) first.closes second.parts second.closes in
    (part_same starts ends first.reading second.reading, (same_char (moved (λ a b. CharAt a 125 b) ends first.closes) second.closes).1)

pub quoted_same : {u v w : Place} {p q : Part} → Quoted u p v → Quoted u q w → (p ≡ q) × (v ≡ w)
quoted_same {u} {v} {w} first second =
    let starts = (same_char first.opens second.opens).1 in
    let ends = quoted_parts_same (moved QuotedParts starts first.parts) first.closes second.parts second.closes in
    (part_same starts ends first.reading second.reading, (same_char (moved (λ a b. CharAt a 34 b) ends first.closes) second.closes).1)

-- the first character of a number, a digit
record Digit (u : Place) : Type 0 where
  digit : ℕ
  following : Place
  here : CharAt u digit following
  passes : is_ascii_digit digit ≡ true

first_digit : {u v : Place} → Number longest u v → Digit u
first_digit (whole c d r e) = record { digit = _; following = _; here = c; passes = d }
first_digit (broken c d r p s e) = record { digit = _; following = _; here = c; passes = d }

pub element_same : {u v w : Place} {e f : Piece} → Element longest u e v → Element longest u f w → (e ≡ f) × (v ≡ w)
element_same {u} {v} {w} (element.number n) (element.number m) = let end = number_same n m in (ap (λ x. literal (part u x)) end, end)
element_same (element.number n) (element.named none i) = let d = first_digit n in absurd (none _ _ d.here d.passes)
element_same (element.number n) (element.braced b) = absurd (not_number b.opens refl _ n)
element_same (element.number n) (element.quoted q) = absurd (not_number q.opens refl _ n)
element_same (element.named none i) (element.number n) = let d = first_digit n in absurd (none _ _ d.here d.passes)
element_same (element.named none i) (element.named none' j) = let same = identifier_same i j in (ap abbreviation same.0, same.1)
element_same (element.named none i) (element.braced b) = absurd (not_name b.opens refl _ _ i)
element_same (element.named none i) (element.quoted q) = absurd (not_name q.opens refl _ _ i)
element_same (element.braced b) (element.number n) = absurd (not_number b.opens refl _ n)
element_same (element.braced b) (element.named none i) = absurd (not_name b.opens refl _ _ i)
element_same (element.braced b) (element.braced c) = let same = braced_same b c in (ap literal same.0, same.1)
element_same (element.braced b) (element.quoted q) = absurd (char_clash b.opens q.opens refl)
element_same (element.quoted q) (element.number n) = absurd (not_number q.opens refl _ n)
element_same (element.quoted q) (element.named none i) = absurd (not_name q.opens refl _ _ i)
element_same (element.quoted q) (element.braced b) = absurd (char_clash q.opens b.opens refl)
element_same (element.quoted q) (element.quoted r) = let same = quoted_same q r in (ap literal same.0, same.1)

-- two matches of pieces from one place are equal and end at the same place
pub elements_same : {u v w : Place} {es fs : List Piece} → Elements longest u es v → Elements longest u fs w → (es ≡ fs) × (v ≡ w)
elements_same (elements.last e white ends) (elements.last f white' ends') =
    let same = element_same e f in
    (ap (λ x. x ∷ []) same.0, longest_same (moved (Longest is_whitespace) same.1 white) white')
elements_same (elements.last e white ends) (elements.more f white' sign white2 rest) =
    let end = longest_same (moved (Longest is_whitespace) (element_same e f).1 white) white' in
    absurd (test_clash true refl (ends _ _ (moved (λ a b. CharAt a 35 b) (sym end) sign)))
elements_same (elements.more f white' sign white2 rest) (elements.last e white ends) =
    let end = longest_same (moved (Longest is_whitespace) (element_same e f).1 white) white' in
    absurd (test_clash true refl (ends _ _ (moved (λ a b. CharAt a 35 b) (sym end) sign)))
elements_same {u} {v} {w} (elements.more {es = es} e white sign white2 rest) (elements.more {e = f} f' white' sign' white2' rest') =
    let same = element_same e f' in
    let end = longest_same (moved (Longest is_whitespace) same.1 white) white' in
    let following = (same_char (moved (λ a b. CharAt a 35 b) end sign) sign').1 in
    let next = longest_same (moved (Longest is_whitespace) following white2) white2' in
    let more = elements_same (subst (λ x. Elements longest x es v) next rest) rest' in
    (ap (λ x. x ∷ es) same.0 ∙ ap (λ x. f ∷ x) more.0, more.1)

-- two fields are equal if their parts are equal
field_equal : (f g : FieldReading) → f.name ≡ g.name → f.value.pieces ≡ g.value.pieces → f.value.start ≡ g.value.start
    → f.value.end ≡ g.value.end → f ≡ g
field_equal f g names pieces starts ends =
    let build : Part → List Piece → ℕ → ℕ → FieldReading =
    λ n ps s e. record { name = n; value = record { pieces = ps; start = s; end = e } } in
    ap (λ n. build n f.value.pieces f.value.start f.value.end) names
    ∙ ap (λ ps. build g.name ps f.value.start f.value.end) pieces
    ∙ ap (λ n. build g.name g.value.pieces n f.value.end) starts
    ∙ ap (λ n. build g.name g.value.pieces g.value.start n) ends

pub field_same : {u v w : Place} {f g : FieldReading} → Field longest u f v → Field longest u g w → (f ≡ g) × (v ≡ w)
field_same {u} {v} {w} {f} {g} a b =
    let name = identifier_same a.name b.name in
    let white = longest_same (moved (Longest is_whitespace) name.1 a.white) b.white in
    let sign = (same_char (moved (λ x y. CharAt x 61 y) white a.sign) b.sign).1 in
    let start = longest_same (moved (Longest is_whitespace) sign a.white') b.white' in
    let rest = elements_same (subst (λ x. Elements longest x f.value.pieces v) start a.elements) b.elements in
    (field_equal f g name.0 rest.0 (a.starts ∙ ap (λ p. p.at) start ∙ sym b.starts) (a.ends ∙ ap (λ p. p.at) rest.1 ∙ sym b.ends), rest.1)

pub line_comment_same : {u v w : Place} → LineComment u v → LineComment u w → v ≡ w
line_comment_same a b = longest_same (moved (Longest (λ c. not (c == 10))) (same_char a.sign b.sign).1 a.line) b.line

pub gap_same : {u v w : Place} → Gap longest u v → Gap longest u w → v ≡ w
gap_same (gap.white a ends) (gap.white b ends') = longest_same a b
gap_same (gap.white a ends) (gap.line_comment b r c) =
    absurd (test_clash true refl (ends _ _ (moved (λ x y. CharAt x 37 y) (longest_same b a) r.sign)))
gap_same (gap.line_comment a r c) (gap.white b ends) =
    absurd (test_clash true refl (ends _ _ (moved (λ x y. CharAt x 37 y) (longest_same a b) r.sign)))
gap_same (gap.line_comment a r c) (gap.line_comment b s d) =
    longest_same (moved (Longest is_whitespace) (line_comment_same (moved (LineComment) (longest_same a b) r) s) c) d

-- an identifier begins with no percent sign
pub start_plain : (c : ℕ) → is_id_start c ≡ true → (c == 37) ≡ false
start_plain c starts = ne_eqb c 37 (λ same. test_clash (is_id_start 37) (subst (λ x. is_id_start x ≡ true) same starts) refl)

-- a character of a key is not white space
pub key_dark : (c : ℕ) → is_key c ≡ true → is_whitespace c ≡ false
key_dark c passes =
    not-true (is_whitespace c)
    (and_parts (not (c == 44 || c == 125) && not (is_control c)) (not (is_whitespace c)) passes).1

-- the first character of an identifier isn't white space
pub start_not_white : (c : ℕ) → is_id_start c ≡ true → is_whitespace c ≡ false
start_not_white c starts =
    let continues = (and_parts (not (c == 58 || c == 60 || c == 45 || c == 62)) (is_id_continue c) starts).1 in
    let not_white = (and_parts (not (is_delimiter c) && not (is_control c)) (not (is_whitespace c)) continues).1 in
    not-true (is_whitespace c) not_white

-- no white space is at the place where a field begins
pub white_none : {u v : Place} {f : FieldReading} {w : Place} → Longest is_whitespace u v → Field longest u f w → u ≡ v
white_none {u} {v} white field =
    longest_same
    (record {
      run = stop;
      stops = stops_at is_whitespace field.name.here (start_not_white field.name.first field.name.starts);
    }) white

pub no_field_closes : {u v w x : Place} {f : FieldReading} → Longest is_whitespace u v → CharAt v 125 x → Field longest u f w → ⊥
no_field_closes white close field =
    pass_clash is_id_start field.name.here field.name.starts (moved (λ a b. CharAt a 125 b) (sym (white_none white field)) close) refl

pub fields_same : {u v w x y : Place} {fs gs : List FieldReading} → Fields longest u fs v → CharAt v 125 x
    → Fields longest u gs w → CharAt w 125 y → (fs ≡ gs) × (v ≡ w)
fields_same (fields.none a) c (fields.none b) d = (refl, longest_same a b)
fields_same (fields.none a) c (fields.last f g) d = absurd (no_field_closes a c f)
fields_same (fields.none a) c (fields.more f g sign h rest) d = absurd (no_field_closes a c f)
fields_same (fields.last f g) c (fields.none b) d = absurd (no_field_closes b d f)
fields_same (fields.last f g) c (fields.last f' g') d =
    let same = field_same f f' in
    (ap (λ x. x ∷ []) same.0, gap_same (moved (Gap longest) same.1 g) g')
fields_same (fields.last f g) c (fields.more f' g' sign h rest) d =
    absurd (char_clash c (moved (λ a b. CharAt a 44 b) (sym (gap_same (moved (Gap longest) (field_same f f').1 g) g')) sign) refl)
fields_same (fields.more f g sign h rest) c (fields.none b) d = absurd (no_field_closes b d f)
fields_same (fields.more f g sign h rest) c (fields.last f' g') d =
    absurd (char_clash d (moved (λ a b. CharAt a 44 b) (gap_same (moved (Gap longest) (field_same f f').1 g) g') sign) refl)
fields_same {u} {v} {w} (fields.more {fs = fs} f g sign h rest) c (fields.more {f = f1} f' g' sign' h' rest') d =
    let same = field_same f f' in
    let comma = gap_same (moved (Gap longest) same.1 g) g' in
    let following = (same_char (moved (λ a b. CharAt a 44 b) comma sign) sign').1 in
    let next = gap_same (moved (Gap longest) following h) h' in
    let more = fields_same (subst (λ x. Fields longest x fs v) next rest) c rest' d in
    (ap (λ x. x ∷ fs) same.0 ∙ ap (λ x. f1 ∷ x) more.0, more.1)
