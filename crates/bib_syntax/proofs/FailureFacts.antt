-- A rule of the grammar that fails doesn't match (lemmas `.._unread`), and fails with at most one error (lemmas `.._once`).
use Rattle.std.proofs.Common.{◌≡◌, ℕ, Bool, true, false, List, refl, sym, subst}
use Rattle.std.specs.Prelude.{◌==◌, ◌||◌}
use Rattle.std.specs.Char.{is_whitespace, is_ascii_digit}
use Rattle.bib_text.specs.Places.{Place, CharAt, Run, Stops, Longest, AtEnd}
use Rattle.bib_text.specs.Braces.{Parts}
use Rattle.bib_text.proofs.PlaceFacts.{same_char, char_clash, pass_clash, longest_same, test_clash, stops_at, no_char_at_end}
use Rattle.bib_syntax.specs.declared.raw.ParseErrorKind.{ParseErrorKind}
use Rattle.bib_syntax.specs.Characters.{is_id_start}
use Rattle.bib_syntax.specs.Reading.{Part, Piece, FieldReading}
use Rattle.bib_syntax.specs.Grammar.{Identifier, Number, QuotedParts, Quoted, Element, Elements, Field, Gap, Fields, longest}
use Rattle.bib_syntax.specs.Grammar.{Element as element}
use Rattle.bib_syntax.specs.Grammar.{Elements as elements}
use Rattle.bib_syntax.specs.Grammar.{Fields as fields}
use Rattle.bib_syntax.specs.SyntaxErrors.{IdentifierFails, NumberFails, QuotedFails, BracedFails, ElementFails, ElementsFails, FieldFails, FieldsFails, begins_element}
use Rattle.bib_syntax.specs.SyntaxErrors.{IdentifierFails as identifier_fail}
use Rattle.bib_syntax.specs.SyntaxErrors.{NumberFails as number_fail}
use Rattle.bib_syntax.specs.SyntaxErrors.{QuotedFails as quoted_fail}
use Rattle.bib_syntax.specs.SyntaxErrors.{BracedFails as braced_fail}
use Rattle.bib_syntax.specs.SyntaxErrors.{ElementFails as element_fail}
use Rattle.bib_syntax.specs.SyntaxErrors.{ElementsFails as elements_fail}
use Rattle.bib_syntax.specs.SyntaxErrors.{FieldFails as field_fail}
use Rattle.bib_syntax.specs.SyntaxErrors.{FieldsFails as fields_fail}
use Rattle.bib_syntax.proofs.LawFacts.{moved, identifier_same, element_same, field_same, gap_same, no_field_closes, start_not_white}
use Rattle.bib_syntax.proofs.WordFacts.{number_points, not_number, not_name}

-- two errors are the same: they have the same kind and the same place
abbrev pub OneError : ParseErrorKind → Place → ParseErrorKind → Place → Type 0
OneError k v l w = (k ≡ l) × (v ≡ w)

-- ---- words

pub identifier_once : {u v w : Place} {k l : ParseErrorKind} → IdentifierFails u k v → IdentifierFails u l w → OneError k v l w
identifier_once (identifier_fail.missing stops) (identifier_fail.missing stops') = (refl, refl)

pub identifier_unread : {u v w : Place} {k : ParseErrorKind} {p : Part} → IdentifierFails u k v → Identifier longest u p w → ⊥
identifier_unread (identifier_fail.missing stops) name = test_clash _ name.starts (stops _ _ name.here)

number_once : {u v w : Place} {k l : ParseErrorKind} → NumberFails u k v → NumberFails u l w → OneError k v l w
number_once (number_fail.second_point run point more second) (number_fail.second_point run' point' more' second') =
    let following = (same_char (moved (λ x y. CharAt x 46 y) (longest_same run run') point) point').1 in
    (refl, longest_same (moved (Longest is_ascii_digit) following more) more')

pub quoted_once : {u v w : Place} {k l : ParseErrorKind} → QuotedFails u k v → QuotedFails u l w → OneError k v l w
quoted_once (quoted_fail.missing stops) (quoted_fail.missing stops') = (refl, refl)
quoted_once (quoted_fail.missing stops) (quoted_fail.unclosed quote none) = absurd (test_clash true refl (stops _ _ quote))
quoted_once (quoted_fail.unclosed quote none) (quoted_fail.missing stops) = absurd (test_clash true refl (stops _ _ quote))
quoted_once (quoted_fail.unclosed quote none) (quoted_fail.unclosed quote' none') = (refl, refl)

pub quoted_unread : {u v w : Place} {k : ParseErrorKind} {p : Part} → QuotedFails u k v → Quoted u p w → ⊥
quoted_unread (quoted_fail.missing stops) q = test_clash true refl (stops _ _ q.opens)
quoted_unread (quoted_fail.unclosed quote none) q = none _ _ (moved QuotedParts (same_char q.opens quote).1 q.parts) q.closes

braced_once : {u v w : Place} {k l : ParseErrorKind} → BracedFails u k v → BracedFails u l w → OneError k v l w
braced_once (braced_fail.unclosed brace none) (braced_fail.unclosed brace' none') = (refl, refl)

-- ---- pieces

digit_passes : (a b c d : Bool) → c ≡ true → a || b || c || d ≡ true
digit_passes true b c d passes = refl
digit_passes false true c d passes = refl
digit_passes false false true d passes = refl
digit_passes false false false d passes = absurd (test_clash true refl (sym passes))

start_passes : (a b c d : Bool) → d ≡ true → a || b || c || d ≡ true
start_passes true b c d passes = refl
start_passes false true c d passes = refl
start_passes false false true d passes = refl
start_passes false false false d passes = passes

digit_begins : {u v : Place} {c : ℕ} → Stops begins_element u → CharAt u c v → is_ascii_digit c ≡ true → ⊥
digit_begins {c = c} stops char digit =
    test_clash _ (digit_passes (c == 123) (c == 34) (is_ascii_digit c) (is_id_start c) digit) (stops _ _ char)

start_begins : {u v : Place} {c : ℕ} → Stops begins_element u → CharAt u c v → is_id_start c ≡ true → ⊥
start_begins {c = c} stops char starts =
    test_clash _ (start_passes (c == 123) (c == 34) (is_ascii_digit c) (is_id_start c) starts) (stops _ _ char)

number_begins : {u v : Place} → Stops begins_element u → Number longest u v → ⊥
number_begins stops (Number.whole char digit run ends) = digit_begins stops char digit
number_begins stops (Number.broken char digit run point run' ends) = digit_begins stops char digit

number_unread : {u v w : Place} {k : ParseErrorKind} → NumberFails u k v → Number longest u w → ⊥
number_unread (number_fail.second_point run point more second) n = number_points run point more second _ n

element_unread : {u v w : Place} {k : ParseErrorKind} {e : Piece} → ElementFails u k v → Element longest u e w → ⊥
element_unread (element_fail.missing stops) (element.number n) = number_begins stops n
element_unread (element_fail.missing stops) (element.named none i) = start_begins stops i.here i.starts
element_unread (element_fail.missing stops) (element.braced b) = test_clash true refl (stops _ _ b.opens)
element_unread (element_fail.missing stops) (element.quoted q) = test_clash true refl (stops _ _ q.opens)
element_unread (element_fail.number char digit f) (element.number n) = number_unread f n
element_unread (element_fail.number char digit f) (element.named none i) = none _ _ char digit
element_unread (element_fail.number char digit f) (element.braced b) = pass_clash is_ascii_digit char digit b.opens refl
element_unread (element_fail.number char digit f) (element.quoted q) = pass_clash is_ascii_digit char digit q.opens refl
element_unread (element_fail.braced (braced_fail.unclosed brace none)) (element.number n) = not_number brace refl _ n
element_unread (element_fail.braced (braced_fail.unclosed brace none)) (element.named none' i) = not_name brace refl _ _ i
element_unread (element_fail.braced (braced_fail.unclosed brace none)) (element.braced b) =
    none _ _ (moved Parts (same_char b.opens brace).1 b.parts) b.closes
element_unread (element_fail.braced (braced_fail.unclosed brace none)) (element.quoted q) = char_clash brace q.opens refl
element_unread (element_fail.quoted quote f) (element.number n) = not_number quote refl _ n
element_unread (element_fail.quoted quote f) (element.named none i) = not_name quote refl _ _ i
element_unread (element_fail.quoted quote f) (element.braced b) = char_clash quote b.opens refl
element_unread (element_fail.quoted quote f) (element.quoted q) = quoted_unread f q

element_once : {u v w : Place} {k l : ParseErrorKind} → ElementFails u k v → ElementFails u l w → OneError k v l w
element_once (element_fail.missing stops) (element_fail.missing stops') = (refl, refl)
element_once (element_fail.missing stops) (element_fail.number char digit f) = absurd (digit_begins stops char digit)
element_once (element_fail.missing stops) (element_fail.braced (braced_fail.unclosed brace none)) =
    absurd (test_clash true refl (stops _ _ brace))
element_once (element_fail.missing stops) (element_fail.quoted quote f) = absurd (test_clash true refl (stops _ _ quote))
element_once (element_fail.number char digit f) (element_fail.missing stops) = absurd (digit_begins stops char digit)
element_once (element_fail.number char digit f) (element_fail.number char' digit' g) = number_once f g
element_once (element_fail.number char digit f) (element_fail.braced (braced_fail.unclosed brace none)) =
    absurd (pass_clash is_ascii_digit char digit brace refl)
element_once (element_fail.number char digit f) (element_fail.quoted quote g) = absurd (pass_clash is_ascii_digit char digit quote refl)
element_once (element_fail.braced (braced_fail.unclosed brace none)) (element_fail.missing stops) =
    absurd (test_clash true refl (stops _ _ brace))
element_once (element_fail.braced (braced_fail.unclosed brace none)) (element_fail.number char digit g) =
    absurd (pass_clash is_ascii_digit char digit brace refl)
element_once (element_fail.braced f) (element_fail.braced g) = braced_once f g
element_once (element_fail.braced (braced_fail.unclosed brace none)) (element_fail.quoted quote g) = absurd (char_clash brace quote refl)
element_once (element_fail.quoted quote f) (element_fail.missing stops) = absurd (test_clash true refl (stops _ _ quote))
element_once (element_fail.quoted quote f) (element_fail.number char digit g) = absurd (pass_clash is_ascii_digit char digit quote refl)
element_once (element_fail.quoted quote f) (element_fail.braced (braced_fail.unclosed brace none)) = absurd (char_clash brace quote refl)
element_once (element_fail.quoted quote f) (element_fail.quoted quote' g) = quoted_once f g

-- two matches of a piece, the # after it and white space end at the same place
next_element : {u a b c d a' b' c' d' : Place} {e e' : Piece} → Element longest u e a → Longest is_whitespace a b
    → CharAt b 35 c → Longest is_whitespace c d
    → Element longest u e' a' → Longest is_whitespace a' b' → CharAt b' 35 c' → Longest is_whitespace c' d' → d ≡ d'
next_element e white sign white' f w s w' =
    let end = longest_same (moved (Longest is_whitespace) (element_same e f).1 white) w in
    let following = (same_char (moved (λ x y. CharAt x 35 y) end sign) s).1 in
    longest_same (moved (Longest is_whitespace) following white') w'

elements_unread : {u v w : Place} {k : ParseErrorKind} {es : List Piece} → ElementsFails u k v → Elements longest u es w → ⊥
elements_unread (elements_fail.first f) (elements.last e white ends) = element_unread f e
elements_unread (elements_fail.first f) (elements.more e white sign white' rest) = element_unread f e
elements_unread (elements_fail.more {x = c} e white sign white' f) (elements.last g w ends) =
    let end = longest_same (moved (Longest is_whitespace) (element_same e g).1 white) w in
    test_clash true refl (ends 35 c (moved (λ x y. CharAt x 35 y) end sign))
elements_unread {w = v} (elements_fail.more e white sign white' f) (elements.more {es = es} g w s w' rest) =
    elements_unread f (subst (λ x. Elements longest x es v) (sym (next_element e white sign white' g w s w')) rest)

elements_once : {u v w : Place} {k l : ParseErrorKind} → ElementsFails u k v → ElementsFails u l w → OneError k v l w
elements_once (elements_fail.first f) (elements_fail.first g) = element_once f g
elements_once (elements_fail.first f) (elements_fail.more e white sign white' g) = absurd (element_unread f e)
elements_once (elements_fail.more e white sign white' f) (elements_fail.first g) = absurd (element_unread g e)
elements_once {w = v} {l = l} (elements_fail.more e white sign white' f) (elements_fail.more e' w s w' g) =
    elements_once f (subst (λ x. ElementsFails x l v) (sym (next_element e white sign white' e' w s w')) g)

-- ---- fields

-- two matches of a name and white space end at the same place, and so do two that continue to the value of a field
sign_place : {u a b a' b' : Place} {p q : Part} → Identifier longest u p a → Longest is_whitespace a b
    → Identifier longest u q a' → Longest is_whitespace a' b' → b ≡ b'
sign_place name white name' white' = longest_same (moved (Longest is_whitespace) (identifier_same name name').1 white) white'

value_place : {u a b c d a' b' c' d' : Place} {p q : Part} → Identifier longest u p a → Longest is_whitespace a b
    → CharAt b 61 c → Longest is_whitespace c d
    → Identifier longest u q a' → Longest is_whitespace a' b' → CharAt b' 61 c' → Longest is_whitespace c' d' → d ≡ d'
value_place name white sign more name' white' sign' more' =
    let following = (same_char (moved (λ x y. CharAt x 61 y) (sign_place name white name' white') sign) sign').1 in
    longest_same (moved (Longest is_whitespace) following more) more'

-- a character that is missing at a place isn't at an equal place
pub missing_clash : {u v w : Place} (test : ℕ → Bool) (c : ℕ) → test c ≡ true → Stops test u → u ≡ v → CharAt v c w → ⊥
missing_clash {u} {v} {w} test c passes stops same char = test_clash (test c) passes (stops c w (subst (λ x. CharAt x c w) (sym same) char))

pub field_unread : {u v w : Place} {k : ParseErrorKind} {f : FieldReading} → FieldFails u k v → Field longest u f w → ⊥
field_unread (field_fail.equals name white stops) x =
    missing_clash (λ c. c == 61) 61 refl stops (sign_place name white x.name x.white) x.sign
field_unread {w = w} {f = f} (field_fail.value name white sign more fails) x =
    elements_unread fails
    (subst (λ y. Elements longest y f.value.pieces w)
    (sym (value_place name white sign more x.name x.white x.sign x.white')) x.elements)

field_once : {u v w : Place} {k l : ParseErrorKind} → FieldFails u k v → FieldFails u l w → OneError k v l w
field_once (field_fail.equals name white stops) (field_fail.equals name' white' stops') = (refl, sign_place name white name' white')
field_once (field_fail.equals name white stops) (field_fail.value name' white' sign more g) =
    absurd (missing_clash (λ c. c == 61) 61 refl stops (sign_place name white name' white') sign)
field_once (field_fail.value name' white' sign more g) (field_fail.equals name white stops) =
    absurd (missing_clash (λ c. c == 61) 61 refl stops (sign_place name white name' white') sign)
field_once {w = w} {l = l} (field_fail.value name white sign more f) (field_fail.value name' white' sign' more' g) =
    elements_once f (subst (λ x. ElementsFails x l w) (sym (value_place name white sign more name' white' sign' more')) g)

-- a field that fails has a name
fail_named : {u v : Place} {k : ParseErrorKind} → FieldFails u k v → Stops is_id_start u → ⊥
fail_named (field_fail.equals name white stops) none = test_clash _ name.starts (none _ _ name.here)
fail_named (field_fail.value name white sign more f) none = test_clash _ name.starts (none _ _ name.here)

pub field_named : {u v : Place} {f : FieldReading} → Field longest u f v → Stops is_id_start u → ⊥
field_named x none = test_clash _ x.name.starts (none _ _ x.name.here)

name_not_closed : {u a v w : Place} {p : Part} → Identifier longest u p a → Longest is_whitespace u v → CharAt v 125 w → ⊥
name_not_closed name white close =
    let first_white =
    longest_same
    (record {
      run = Run.stop;
      stops = stops_at is_whitespace name.here (start_not_white name.first name.starts);
    }) white in
    pass_clash is_id_start name.here name.starts (moved (λ x y. CharAt x 125 y) (sym first_white) close) refl

fail_not_closed : {u z v w : Place} {k : ParseErrorKind} → FieldFails u k z → Longest is_whitespace u v → CharAt v 125 w → ⊥
fail_not_closed (field_fail.equals name more stops) white close = name_not_closed name white close
fail_not_closed (field_fail.value name more sign more' f) white close = name_not_closed name white close

-- two matches of a field and a gap end at the same place, and so do two that continue to the next field
comma_place : {u a b a' b' : Place} {f g : FieldReading} → Field longest u f a → Gap longest a b → Field longest u g a'
    → Gap longest a' b' → b ≡ b'
comma_place f g f' g' = gap_same (moved (Gap longest) (field_same f f').1 g) g'

next_field : {u a b c d a' b' c' d' : Place} {f g : FieldReading} → Field longest u f a → Gap longest a b → CharAt b 44 c → Gap longest c d
    → Field longest u g a' → Gap longest a' b' → CharAt b' 44 c' → Gap longest c' d' → d ≡ d'
next_field f g sign h f' g' sign' h' =
    let following = (same_char (moved (λ x y. CharAt x 44 y) (comma_place f g f' g') sign) sign').1 in
    gap_same (moved (Gap longest) following h) h'

abbrev ends_field : ℕ → Bool
ends_field c = c == 44 || c == 125

pub fields_unread : {u z v w : Place} {k : ParseErrorKind} {fs : List FieldReading} → FieldsFails u k z
    → Fields longest u fs v → CharAt v 125 w → ⊥
fields_unread (fields_fail.first f) (fields.none white) close = fail_not_closed f white close
fields_unread (fields_fail.first f) (fields.last x g) close = field_unread f x
fields_unread (fields_fail.first f) (fields.more x g sign h rest) close = field_unread f x
fields_unread (fields_fail.more x g sign h f) (fields.none white) close = no_field_closes white close x
fields_unread (fields_fail.more x g sign h f) (fields.last y g') close =
    char_clash close (moved (λ p q. CharAt p 44 q) (comma_place x g y g') sign) refl
fields_unread {v = v} (fields_fail.more x g sign h f) (fields.more {fs = fs} y g' sign' h' rest) close =
    fields_unread f (subst (λ p. Fields longest p fs v) (sym (next_field x g sign h y g' sign' h')) rest) close
fields_unread (fields_fail.comma x g stops) (fields.none white) close = no_field_closes white close x
fields_unread (fields_fail.comma x g stops) (fields.last y g') close = missing_clash ends_field 125 refl stops (comma_place x g y g') close
fields_unread (fields_fail.comma x g stops) (fields.more y g' sign h rest) close =
    missing_clash ends_field 44 refl stops (comma_place x g y g') sign
fields_unread (fields_fail.name none white stops more) (fields.none white') close =
    missing_clash (λ c. c == 125) 125 refl stops (longest_same white white') close
fields_unread (fields_fail.name none white stops more) (fields.last x g) close = field_named x none
fields_unread (fields_fail.name none white stops more) (fields.more x g sign h rest) close = field_named x none
fields_unread (fields_fail.ended none white end) (fields.none white') close =
    no_char_at_end end (moved (λ x y. CharAt x 125 y) (longest_same white' white) close)
fields_unread (fields_fail.ended none white end) (fields.last x g) close = field_named x none
fields_unread (fields_fail.ended none white end) (fields.more x g sign h rest) close = field_named x none

-- if fields that begin with a complete field and a comma fail, the fields after the comma fail with the same error
fails_after : {u a b c d v : Place} {k : ParseErrorKind} {f : FieldReading} → Field longest u f a → Gap longest a b
    → CharAt b 44 c → Gap longest c d → FieldsFails u k v → FieldsFails d k v
fails_after x g sign h (fields_fail.first f) = absurd (field_unread f x)
fails_after {v = v} {k = k} x g sign h (fields_fail.more y g' sign' h' f) =
    subst (λ p. FieldsFails p k v) (sym (next_field x g sign h y g' sign' h')) f
fails_after x g sign h (fields_fail.comma y g' stops) = absurd (missing_clash ends_field 44 refl stops (comma_place y g' x g) sign)
fails_after x g sign h (fields_fail.name none white stops more) = absurd (field_named x none)
fails_after x g sign h (fields_fail.ended none white end) = absurd (field_named x none)

pub fields_once : {u v w : Place} {k l : ParseErrorKind} → FieldsFails u k v → FieldsFails u l w → OneError k v l w
fields_once (fields_fail.more x g sign h f) other = fields_once f (fails_after x g sign h other)
fields_once (fields_fail.first f) (fields_fail.first f') = field_once f f'
fields_once (fields_fail.first f) (fields_fail.more x g sign h f') = absurd (field_unread f x)
fields_once (fields_fail.first f) (fields_fail.comma x g stops) = absurd (field_unread f x)
fields_once (fields_fail.first f) (fields_fail.name none white stops more) = absurd (fail_named f none)
fields_once (fields_fail.first f) (fields_fail.ended none white end) = absurd (fail_named f none)
fields_once (fields_fail.comma x g stops) (fields_fail.first f) = absurd (field_unread f x)
fields_once (fields_fail.comma x g stops) (fields_fail.more y g' sign h f) =
    absurd (missing_clash ends_field 44 refl stops (comma_place x g y g') sign)
fields_once (fields_fail.comma x g stops) (fields_fail.comma y g' stops') = (refl, comma_place x g y g')
fields_once (fields_fail.comma x g stops) (fields_fail.name none white stops' more) = absurd (field_named x none)
fields_once (fields_fail.comma x g stops) (fields_fail.ended none white end) = absurd (field_named x none)
fields_once (fields_fail.name none white stops more) (fields_fail.first f) = absurd (fail_named f none)
fields_once (fields_fail.name none white stops more) (fields_fail.more x g sign h f) = absurd (field_named x none)
fields_once (fields_fail.name none white stops more) (fields_fail.comma x g stops') = absurd (field_named x none)
fields_once (fields_fail.name none white stops more) (fields_fail.name none' white' stops' more') = (refl, longest_same white white')
fields_once (fields_fail.name none white stops more) (fields_fail.ended none' white' end) =
    absurd (more (subst AtEnd (longest_same white' white) end))
fields_once (fields_fail.ended none white end) (fields_fail.first f) = absurd (fail_named f none)
fields_once (fields_fail.ended none white end) (fields_fail.more x g sign h f) = absurd (field_named x none)
fields_once (fields_fail.ended none white end) (fields_fail.comma x g stops') = absurd (field_named x none)
fields_once (fields_fail.ended none white end) (fields_fail.name none' white' stops more) =
    absurd (more (subst AtEnd (longest_same white white') end))
fields_once (fields_fail.ended none white end) (fields_fail.ended none' white' end') = (refl, longest_same white white')
