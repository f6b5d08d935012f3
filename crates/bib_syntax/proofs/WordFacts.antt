-- Facts about names and numbers.
use Rattle.std.proofs.Common.{List, ◌≡◌, ℕ, Bool, true, false, refl, sym, subst, MatchBool}
use Rattle.std.specs.Prelude.{not, ◌&&◌, ◌||◌, ◌==◌}
use Rattle.std.proofs.lemmas.Bool.{and_parts}
use Rattle.std.specs.Char.{is_ascii_digit}
use Rattle.bib_text.specs.Places.{Place, CharAt, Longest}
use Rattle.bib_text.proofs.PlaceFacts.{same_char, pass_clash, longest_rest, longest_same, stops_without, test_clash, Ahead, ahead_then, ahead_char, ahead_run}
use Rattle.std.specs.Borrow.{Bor}
use Rattle.bib_text.specs.declared.spanned.Spanned.{Spanned}
use Rattle.bib_syntax.specs.declared.raw.RawChunk.{RawChunk}
use Rattle.bib_syntax.specs.declared.raw.RawChunk.TheVariants.{Normal, Abbreviation}
use Rattle.bib_syntax.specs.Views.{part_of, piece_of}
use Rattle.bib_syntax.specs.Characters.{is_id_start, is_id_continue}
use Rattle.bib_syntax.specs.Reading.{Part, part}
use Rattle.bib_syntax.specs.Reading.Piece.{literal}
use Rattle.bib_syntax.specs.Grammar.{Identifier, Number, Braced, Quoted, Element, NoDigit, longest}
use Rattle.bib_syntax.specs.Grammar.Element.{number, named, braced, quoted}
use Rattle.bib_syntax.proofs.QuoteFacts.{is_quotable}
use Rattle.bib_syntax.specs.Grammar.Number.{whole, broken}

-- testing the character at a place decides whether a passing character is there
pub passes_cases : (test : ℕ → Bool) {u v : Place} {c : ℕ} (b : Bool) → CharAt u c v → b ≡ test c
    → MatchBool b ((d : ℕ) × (w : Place) × CharAt u d w × (test d ≡ true)) ((d : ℕ) (w : Place) → CharAt u d w → test d ≡ false)
passes_cases test {u} {v} {c} true char same = (_, _, char, sym same)
passes_cases test {u} {v} {c} false char same = λ d w other. subst (λ x. test x ≡ false) (same_char char other).0 (sym same)

id_start_continues : (c : ℕ) → is_id_start c ≡ true → is_id_continue c ≡ true
id_start_continues c starts = (and_parts (not (c == 58 || c == 60 || c == 45 || c == 62)) (is_id_continue c) starts).1

-- an identifier, from its first character and the longest run that begins with it
pub identifier_from : {u v w : Place} {c : ℕ} {p : Part} → CharAt u c v → is_id_start c ≡ true
    → Longest is_id_continue u w → p ≡ part u w → Identifier longest u p w
identifier_from {u} {v} {w} {c} char starts run reading = record {
  second = v;
  first = c;
  here = char;
  starts = starts;
  rest = longest_rest run char (id_start_continues c starts);
  reading = reading;
}

-- digits without a point after them are a number
pub number_whole : {u v w : Place} {c : ℕ} → CharAt u c v → is_ascii_digit c ≡ true → Longest is_ascii_digit u w
    → ((x : Place) → CharAt w 46 x → ⊥) → Number longest u w
number_whole char digit run no_point = whole char digit (longest_rest run char digit) (stops_without 46 no_point)

-- digits, a point and digits without another point after them are a number
pub number_broken : {u v w x y : Place} {c : ℕ} → CharAt u c v → is_ascii_digit c ≡ true → Longest is_ascii_digit u w
    → CharAt w 46 x → Longest is_ascii_digit x y
    → ((z : Place) → CharAt y 46 z → ⊥) → Number longest u y
number_broken char digit run point run' no_point = broken char digit (longest_rest run char digit) point run' (stops_without 46 no_point)

-- no number matches before a second point
pub number_points : {u w x y z : Place} → Longest is_ascii_digit u w → CharAt w 46 x → Longest is_ascii_digit x y
    → CharAt y 46 z → (v : Place) → Number longest u v → ⊥
number_points {u} {w} {x} {y} {z} run point more again v (whole char digit rest ends) =
    let moved = subst (λ p. CharAt p 46 x) (longest_same (longest_rest run char digit) rest) point in
    test_clash true refl (ends 46 x moved)
number_points {u} {w} {x} {y} {z} run point more again v (broken char digit rest dot rest2 ends) =
    let there = subst (λ p. CharAt p 46 x) (longest_same (longest_rest run char digit) rest) point in
    let inside = subst (λ p. Longest is_ascii_digit p y) (same_char there dot).1 more in
    let moved = subst (λ p. CharAt p 46 z) (longest_same inside rest2) again in
    test_clash true refl (ends 46 z moved)

-- an identifier, from a first character that passes the test and the longest run
pub identifier_found : {u w : Place} {p : Part} → ((c : ℕ) × (v : Place) × CharAt u c v × (is_id_start c ≡ true))
    → Longest is_id_continue u w → p ≡ part u w → Identifier longest u p w
identifier_found (c, v, char, starts) run reading = identifier_from char starts run reading

pub not_number : {u x : Place} {c : ℕ} → CharAt u c x → is_ascii_digit c ≡ false → (v : Place) → Number longest u v → ⊥
not_number char differs v (whole first digit rest ends) = pass_clash is_ascii_digit first digit char differs
not_number char differs v (broken first digit rest dot rest2 ends) = pass_clash is_ascii_digit first digit char differs

pub not_name : {u x : Place} {c : ℕ} → CharAt u c x → is_id_start c ≡ false → (p : Part) (v : Place) → Identifier longest u p v → ⊥
not_name char differs p v name = pass_clash is_id_start name.here name.starts char differs

-- the part of a number is a piece
pub number_element : {u v : Place} (p : Part) → Number longest u v → p ≡ part u v → Element longest u (literal p) v
number_element {u} {v} p n same = subst (λ q. Element longest u (literal q) v) (sym same) (number n)

pub ahead_number : {u v : Place} → Number longest u v → Ahead u v
ahead_number (whole first digit rest ends) = ahead_then (ahead_char first) (ahead_run rest.run)
ahead_number (broken first digit rest dot rest2 ends) =
    ahead_then (ahead_char first) (ahead_then (ahead_run rest.run) (ahead_then (ahead_char dot) (ahead_run rest2.run)))

-- the pieces of the code for a braced text, a quoted text, a number and a name are pieces of the grammar
pub braced_element : {u v : Place} (s : Spanned RawChunk) (t : Spanned (Bor (List ℕ))) → s.v ≡ Normal t.v
    → s.span ≡ t.span → Braced u (part_of t) v → Element longest u (piece_of s) v
braced_element {u} {v} s t same spans b = rw (same, spans) (braced b)

pub quoted_element : {u v : Place} (s : Spanned RawChunk) (t : Spanned (Bor (List ℕ))) → s.v ≡ Normal t.v
    → s.span ≡ t.span → Quoted u (part_of t) v → Element longest u (piece_of s) v
quoted_element {u} {v} s t same spans q = rw (same, spans) (quoted q)

pub number_piece : {u v : Place} (s : Spanned RawChunk) (t : Spanned (Bor (List ℕ))) → s.v ≡ Normal t.v
    → s.span ≡ t.span → Number longest u v → part_of t ≡ part u v → Element longest u (piece_of s) v
number_piece {u} {v} s t same spans n reading = rw (same, spans) (number_element _ n reading)

pub named_piece : {u v : Place} (s : Spanned RawChunk) (t : Spanned (Bor (List ℕ))) → s.v ≡ Abbreviation t.v
    → s.span ≡ t.span → NoDigit u → Identifier longest u (part_of t) v → Element longest u (piece_of s) v
named_piece {u} {v} s t same spans no_digit i = rw (same, spans) (named no_digit i)

-- no digit is at a place if each character there isn't one
pub no_digit_without : {u : Place} → ((c : ℕ) (v : Place) → CharAt u c v → is_ascii_digit c ≡ false) → NoDigit u
no_digit_without none c v char digit = test_clash _ digit (none c v char)

-- a character that is neither a quote nor a backslash differs from both
pub quotable_differs : {c : ℕ} (d : ℕ) → is_quotable c ≡ true → is_quotable d ≡ false → c ≡ d → ⊥
quotable_differs d passes fails same = test_clash (is_quotable d) (subst (λ x. is_quotable x ≡ true) same passes) fails
