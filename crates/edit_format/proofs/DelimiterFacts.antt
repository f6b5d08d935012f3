-- The contents that can be written in braces and in quotes: the tests of bytes agree with the file grammar.
use Rattle.std.proofs.Common.{◌≡◌, inl, inr, ℕ, ◌+◌, ◌≤◌, Bool, true, false, cond, List, [], ◌∷◌, ◌++◌, length, MatchBool, refl, sym, ap, ◌∙◌, subst, arith, append_assoc, drop}
use Rattle.std.specs.Prelude.{◌==◌, ◌&&◌, encode_utf8, encode_utf8_all, not}
use Rattle.std.specs.List.{AllByRecursion}
use Rattle.std.proofs.lemmas.Bool.{cases_eq, ne_eqb}
use Rattle.std.proofs.lemmas.List.{append-nil}
use Rattle.std.proofs.lemmas.Str.{encode_ascii}
use Rattle.bib_text.specs.Places.{Place, place, CharAt, between}
use Rattle.bib_text.specs.Braces.{IsParts, Parts, has_balanced_braces}
use Rattle.bib_text.specs.Braces.{Parts as parts}
use Rattle.bib_text.proofs.BraceFacts.{ahead_parts, plain_is}
use Rattle.bib_text.proofs.BraceTestFacts.{parts_tested}
use Rattle.bib_text.proofs.EncodedFacts.{Encoded, encoded}
use Rattle.bib_text.proofs.PlaceFacts.{ahead_then, ahead_char, test_clash}
use Rattle.bib_syntax.specs.Grammar.{QuotedParts}
use Rattle.bib_syntax.specs.Grammar.{QuotedParts as quotes}
use Rattle.bib_syntax.proofs.FieldFacts.{ahead_quoted_parts}
use Rattle.bib_syntax.proofs.QuoteFacts.{is_quotable}
use Rattle.bib_syntax.proofs.WordFacts.{quotable_differs}
use Rattle.edit_entries.proofs.FitFacts.{whole_bytes}
use Rattle.edit_format.specs.Delimited.{hide_quotes}
use Rattle.edit_entries.proofs.ElementFacts.{char_parted, parted}
use Rattle.edit_entries.proofs.StandsFacts.{stands_between}
use Rattle.edit_format.proofs.NameFacts.{none_between}

-- ---- quotes by bytes

pub other_sign : (b : ℕ) (bs : List ℕ) → (b ≡ 92 → ⊥) → (b ≡ 34 → ⊥) → hide_quotes false (b ∷ bs) ≡ hide_quotes false bs
other_sign b bs no_slash no_quote =
    ap (λ x. cond x (hide_quotes true bs) (not (b == 34) && hide_quotes false bs)) (ne_eqb b 92 no_slash)
    ∙ ap (λ x. not x && hide_quotes false bs) (ne_eqb b 34 no_quote)

high_signs : (bs rest : List ℕ) → AllByRecursion (λ x. 128 ≤ x) bs → hide_quotes false (bs ++ rest) ≡ hide_quotes false rest
high_signs [] rest all = refl
high_signs (b ∷ bs) rest all =
    other_sign b (bs ++ rest) (λ same. omega (arith, same, all.0)) (λ same. omega (arith, same, all.0))
    ∙ high_signs bs rest all.1

past_other : (c : ℕ) (rest : List ℕ) → (c ≡ 92 → ⊥) → (c ≡ 34 → ⊥) → hide_quotes false (encode_utf8 c ++ rest) ≡ hide_quotes false rest
past_other c rest no_slash no_quote = by (encoded c)
  where
    by : {bytes : List ℕ} → Encoded c bytes → hide_quotes false (bytes ++ rest) ≡ hide_quotes false rest
    by (Encoded.one small) = other_sign c rest no_slash no_quote
    by (Encoded.wide {b = b} {bs = bs} large all) = high_signs (b ∷ bs) rest all

past_hidden : (c : ℕ) (rest : List ℕ) → hide_quotes true (encode_utf8 c ++ rest) ≡ hide_quotes false rest
past_hidden c rest = by (encoded c)
  where
    by : {bytes : List ℕ} → Encoded c bytes → hide_quotes true (bytes ++ rest) ≡ hide_quotes false rest
    by (Encoded.one small) = refl
    by (Encoded.wide {bs = bs} large all) = high_signs bs rest all.1

past_slash : (rest : List ℕ) → hide_quotes false (encode_utf8 92 ++ rest) ≡ hide_quotes true rest
past_slash rest = ap (λ t. hide_quotes false (t ++ rest)) (encode_ascii 92 (omega arith))

stops_at_quote : (rest : List ℕ) → hide_quotes false (encode_utf8 34 ++ rest) ≡ false
stops_at_quote rest = ap (λ t. hide_quotes false (t ++ rest)) (encode_ascii 34 (omega arith))

-- ---- the cases of a character

is_quotable_from : (c : ℕ) → (c ≡ 34 → ⊥) → (c ≡ 92 → ⊥) → is_quotable c ≡ true
is_quotable_from c no_quote no_slash = ap (λ x. not x && not (c == 92)) (ne_eqb c 34 no_quote) ∙ ap not (ne_eqb c 92 no_slash)

-- ---- contents of quoted literals, in braces

-- the content of a quoted literal is the bytes of some characters
quoted_characters : {u v : Place} → QuotedParts u v → v.at ≤ length u.text → (cs : List ℕ) × (between u v ≡ encode_utf8_all cs)
quoted_characters {u} quotes.none within = ([], none_between u)
quoted_characters {u} {v} (quotes.plain {v = w} {c = c} char passes rest) within =
    let more = quoted_characters rest (omega (arith, within, ap length char.same)) in
    (c ∷ more.0, char_parted char (ahead_quoted_parts rest) within ∙ ap (λ t. encode_utf8 c ++ t) more.1)
quoted_characters {u} {v} (quotes.hidden {v = w} {w = x} {c = c} slash char rest) within =
    let within' : v.at ≤ length w.text = omega (arith, within, ap length slash.same) in
    let more = quoted_characters rest (omega (arith, within', ap length char.same)) in
    let after : between w v ≡ encode_utf8_all (c ∷ more.0) =
    char_parted char (ahead_quoted_parts rest) within' ∙ ap (λ t. encode_utf8 c ++ t) more.1 in (
      92 ∷ c ∷ more.0,
      char_parted slash (ahead_then (ahead_char char) (ahead_quoted_parts rest)) within ∙ ap (λ t. encode_utf8 92 ++ t) after,
    )

-- the test for balanced braces decides whether the content of a quoted literal parses in braces
content_decided : {u v : Place} → QuotedParts u v → v.at ≤ length u.text
    → MatchBool (has_balanced_braces (between u v)) (Parts u v) (Parts u v → ⊥)
content_decided {u} {v} x within =
    let spelt = quoted_characters x within in
    let s = stands_between (ahead_quoted_parts x) within in
    subst (λ t. MatchBool (has_balanced_braces t) (Parts u v) (Parts u v → ⊥)) (sym spelt.1)
    (parts_tested spelt.0 (drop v.at u.text) u v (s.here ∙ ap (λ t. t ++ drop v.at u.text) spelt.1) s.same
    (s.next ∙ ap (λ t. u.at + length t) spelt.1))

pub parts_of_quoted : {u v : Place} → QuotedParts u v → v.at ≤ length u.text → has_balanced_braces (between u v) ≡ true → Parts u v
parts_of_quoted {u} {v} x within is = subst (λ b. MatchBool b (Parts u v) (Parts u v → ⊥)) is (content_decided x within)

pub braces_decided : (text : List ℕ) → QuotedParts (place text 0) (place text (length text))
    → MatchBool (has_balanced_braces text) (IsParts text) (IsParts text → ⊥)
braces_decided text x =
    subst (λ t. MatchBool (has_balanced_braces t) (IsParts text) (IsParts text → ⊥)) (whole_bytes text)
    (content_decided x (omega arith))

-- ---- contents of braced literals, in quotes

quoted_append : {u v w : Place} → QuotedParts u v → QuotedParts v w → QuotedParts u w
quoted_append quotes.none others = others
quoted_append (quotes.plain char passes rest) others = quotes.plain char passes (quoted_append rest others)
quoted_append (quotes.hidden slash char rest) others = quotes.hidden slash char (quoted_append rest others)

-- a part parses in quotes, and the bytes after it pass the test
record AreQuoted (u v : Place) (rest : List ℕ) : Type 0 where
  inside : QuotedParts u v
  following : hide_quotes false rest ≡ true

quoted_char : {u w : Place} {c : ℕ} (bytes : List ℕ) → CharAt u c w → (c ≡ 92 → ⊥)
    → hide_quotes false (encode_utf8 c ++ bytes) ≡ true → QuotedParts u w × (hide_quotes false bytes ≡ true)
quoted_char {u} {w} {c} bytes char no_slash is =
    elim (cases_eq c 34) [
      | inl quote ↦ absurd
          (test_clash (hide_quotes false (encode_utf8 34 ++ bytes))
          (ap (λ d. hide_quotes false (encode_utf8 d ++ bytes)) (sym quote) ∙ is) (stops_at_quote bytes))
      | inr no_quote ↦ (
        quotes.plain char (is_quotable_from c no_quote no_slash) quotes.none,
        sym (past_other c bytes no_slash no_quote) ∙ is,
      )
    ]

quoted_braced : {u v : Place} (bytes : List ℕ) → Parts u v → v.at ≤ length u.text
    → hide_quotes false (between u v ++ bytes) ≡ true → AreQuoted u v bytes
quoted_braced {u} bytes parts.none within is = record {
  inside = quotes.none;
  following = ap (λ t. hide_quotes false (t ++ bytes)) (sym (none_between u)) ∙ is;
}
quoted_braced {u} {v} bytes (parts.plain {v = w} {c = c} char passes rest) within is =
    let split : between u v ++ bytes ≡ encode_utf8 c ++ (between w v ++ bytes) =
    ap (λ t. t ++ bytes) (char_parted char (ahead_parts rest) within)
    ∙ append_assoc (encode_utf8 c) (between w v) bytes in
    let first = quoted_char (between w v ++ bytes) char (plain_is 92 passes refl) (ap (hide_quotes false) (sym split) ∙ is) in
    let others = quoted_braced bytes rest (omega (arith, within, ap length char.same)) first.1 in
    record { inside = quoted_append first.0 others.inside; following = others.following }
quoted_braced {u} {v} bytes (parts.hidden {v = w} {w = x} {c = c} slash char rest) within is =
    let within' : v.at ≤ length w.text = omega (arith, within, ap length slash.same) in
    let split : between u v ++ bytes ≡ encode_utf8 92 ++ (between w v ++ bytes) =
    ap (λ t. t ++ bytes) (char_parted slash (ahead_then (ahead_char char) (ahead_parts rest)) within)
    ∙ append_assoc (encode_utf8 92) (between w v) bytes in
    let split' : between w v ++ bytes ≡ encode_utf8 c ++ (between x v ++ bytes) =
    ap (λ t. t ++ bytes) (char_parted char (ahead_parts rest) within')
    ∙ append_assoc (encode_utf8 c) (between x v) bytes in
    let hidden = ap (hide_quotes true) (sym split') ∙ sym (past_slash (between w v ++ bytes)) ∙ ap (hide_quotes false) (sym split) ∙ is in
    let others =
    quoted_braced bytes rest (omega (arith, within', ap length char.same))
    (sym (past_hidden c (between x v ++ bytes)) ∙ hidden) in
    record { inside = quotes.hidden slash char others.inside; following = others.following }
quoted_braced {u} {v} bytes (parts.nested {v = w} {w = x} {x = y} opens inner closes rest) within is =
    let from_close = ahead_then (ahead_char closes) (ahead_parts rest) in
    let within' : v.at ≤ length w.text = omega (arith, within, ap length opens.same) in
    let up : v.at ≤ length x.text = omega (arith, within', ap length (ahead_parts inner).text) in
    let inside_bytes : List ℕ = between x v ++ bytes in
    let split : between u v ++ bytes ≡ encode_utf8 123 ++ (between w v ++ bytes) =
    ap (λ t. t ++ bytes) (char_parted opens (ahead_then (ahead_parts inner) from_close) within)
    ∙ append_assoc (encode_utf8 123) (between w v) bytes in
    let first = quoted_char (between w v ++ bytes) opens (λ clash. omega (arith, clash)) (ap (hide_quotes false) (sym split) ∙ is) in
    let split' : between w v ++ bytes ≡ between w x ++ inside_bytes =
    ap (λ t. t ++ bytes) (parted (ahead_parts inner) from_close within')
    ∙ append_assoc (between w x) (between x v) bytes in
    let within_inner : x.at ≤ length w.text = omega (arith, within', from_close.at) in
    let second = quoted_braced inside_bytes inner within_inner (ap (hide_quotes false) (sym split') ∙ first.1) in
    let split'' : inside_bytes ≡ encode_utf8 125 ++ (between y v ++ bytes) =
    ap (λ t. t ++ bytes) (char_parted closes (ahead_parts rest) up)
    ∙ append_assoc (encode_utf8 125) (between y v) bytes in
    let third =
    quoted_char (between y v ++ bytes) closes (λ clash. omega (arith, clash))
    (ap (hide_quotes false) (sym split'') ∙ second.following) in
    let others = quoted_braced bytes rest (omega (arith, up, ap length closes.same)) third.1 in
    record {
      inside = quoted_append first.0 (quoted_append second.inside (quoted_append third.0 others.inside));
      following = others.following;
    }

pub quoted_of_parts : {u v : Place} → Parts u v → v.at ≤ length u.text → hide_quotes false (between u v) ≡ true → QuotedParts u v
quoted_of_parts {u} {v} x within is = (quoted_braced [] x within (ap (hide_quotes false) (append-nil (between u v)) ∙ is)).inside

-- ---- the tests agree with the grammar

hides_quoted : {u v : Place} → QuotedParts u v → v.at ≤ length u.text → hide_quotes false (between u v) ≡ true
hides_quoted {u} quotes.none within = ap (hide_quotes false) (none_between u)
hides_quoted {u} {v} (quotes.plain {v = w} {c = c} char passes rest) within =
    ap (hide_quotes false) (char_parted char (ahead_quoted_parts rest) within)
    ∙ past_other c (between w v) (quotable_differs 92 passes refl) (quotable_differs 34 passes refl)
    ∙ hides_quoted rest (omega (arith, within, ap length char.same))
hides_quoted {u} {v} (quotes.hidden {v = w} {w = x} {c = c} slash char rest) within =
    let within' : v.at ≤ length w.text = omega (arith, within, ap length slash.same) in
    ap (hide_quotes false) (char_parted slash (ahead_then (ahead_char char) (ahead_quoted_parts rest)) within) ∙ past_slash (between w v)
    ∙ ap (hide_quotes true) (char_parted char (ahead_quoted_parts rest) within') ∙ past_hidden c (between x v)
    ∙ hides_quoted rest (omega (arith, within', ap length char.same))

decided : (b : Bool) {P : Type 0} → (b ≡ true → P) → (P → b ≡ true) → MatchBool b P (P → ⊥)
decided true on back = on refl
decided false on back = λ p. test_clash false (back p) refl

pub quotes_decided : (text : List ℕ) → IsParts text
    → MatchBool (hide_quotes false text) (QuotedParts (place text 0) (place text (length text)))
    (QuotedParts (place text 0) (place text (length text)) → ⊥)
quotes_decided text x =
    decided (hide_quotes false text) (λ is. quoted_of_parts x (omega arith) (ap (hide_quotes false) (whole_bytes text) ∙ is))
    (λ q. ap (hide_quotes false) (sym (whole_bytes text)) ∙ hides_quoted q (omega arith))
