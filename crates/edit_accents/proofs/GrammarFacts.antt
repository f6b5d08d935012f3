-- The characters of literals: in braces, they have balanced braces; in quotes, they have no unescaped quote. Any such characters are the
-- text of a literal.
use Rattle.std.proofs.Common.{◌≡◌, inl, inr, ℕ, suc, ◌-◌, ◌≤◌, Bool, true, false, List, [], ◌∷◌, ◌++◌, MatchBool, drop, length, refl, sym, ap, ◌∙◌, subst, arith}
use Rattle.std.specs.Prelude.{◌==◌, ◌&&◌, not, encode_utf8, encode_utf8_all, nat_lt}
use Rattle.std.specs.Str.{IsUtf8, chars}
use Rattle.std.proofs.lemmas.Bool.{cases_eq, ne_eqb}
use Rattle.std.proofs.lemmas.Bool.Decides.{when_true}
use Rattle.std.proofs.lemmas.Str.{encodes-chars}
use Rattle.bib_text.specs.Places.{Place, CharAt, between}
use Rattle.bib_text.specs.Braces.{Parts, close_braces}
use Rattle.bib_text.proofs.PlaceFacts.{ahead_then, ahead_char, test_clash}
use Rattle.bib_text.proofs.TextFacts.{chars_whole}
use Rattle.bib_text.proofs.BraceFacts.{ahead_parts}
use Rattle.bib_text.proofs.BraceTestFacts.{other_byte, parts_tested, tested_by_bytes}
use Rattle.bib_syntax.proofs.QuoteFacts.{is_quotable}
use Rattle.bib_syntax.proofs.WordFacts.{quotable_differs}
use Rattle.bib_syntax.specs.Grammar.{QuotedParts}
use Rattle.bib_syntax.specs.Grammar.{QuotedParts as quotes}
use Rattle.bib_syntax.proofs.FieldFacts.{ahead_quoted_parts}
use Rattle.edit_entries.proofs.ElementFacts.{char_parted}
use Rattle.edit_entries.proofs.StandsFacts.{Stands, char_stands, first_part, last_part, nothing, past, stands_between}
use Rattle.edit_format.proofs.NameFacts.{none_between}
use Rattle.edit_accents.specs.Balance.{text_fits}
use Rattle.edit_accents.proofs.FitFacts.{over_dull}

-- ---- the characters of a literal

-- the text between two places is the bytes of characters with this property
record HasCharacters (u v : Place) (skips : List ℕ → Type 0) : Type 0 where
  characters : List ℕ
  spelt : between u v ≡ encode_utf8_all characters
  skipped : skips characters

spelt_more : (u v w : Place) (c : ℕ) (cs : List ℕ) → between u w ≡ encode_utf8 c ++ between v w → between v w ≡ encode_utf8_all cs
    → between u w ≡ encode_utf8_all (c ∷ cs)
spelt_more u v w c cs first rest = first ∙ ap (λ t. encode_utf8 c ++ t) rest

-- these characters can be between quotes
abbrev Unquoted : List ℕ → Type 0
Unquoted cs = text_fits true false 0 cs ≡ true

over_unquoted : (c : ℕ) (cs : List ℕ) → is_quotable c ≡ true → text_fits true false 0 (c ∷ cs) ≡ text_fits true false 0 cs
over_unquoted c cs passes =
    elim (cases_eq c 123) [
      | inl opens ↦ subst (λ x. text_fits true false 0 (x ∷ cs) ≡ text_fits true false 0 cs) (sym opens) refl
      | inr no_open ↦ elim (cases_eq c 125) [
        | inl closes ↦ subst (λ x. text_fits true false 0 (x ∷ cs) ≡ text_fits true false 0 cs) (sym closes) refl
        | inr no_close ↦ over_dull true 0 c cs
            (record {
              no_slash = quotable_differs 92 passes refl;
              no_quote = quotable_differs 34 passes refl;
              no_open = no_open;
              no_close = no_close;
            })
      ]
    ]

quoted_characters : {u v : Place} → QuotedParts u v → v.at ≤ length u.text → HasCharacters u v Unquoted
quoted_characters {u} quotes.none within = record { characters = []; spelt = none_between u; skipped = refl }
quoted_characters {u} {v} (quotes.plain {v = w} {c = c} char passes rest) within =
    let others = quoted_characters rest (omega (arith, within, ap length char.same)) in
    record {
      characters = c ∷ others.characters;
      spelt = spelt_more u w v c others.characters (char_parted char (ahead_quoted_parts rest) within) others.spelt;
      skipped = over_unquoted c others.characters passes ∙ others.skipped;
    }
quoted_characters {u} {v} (quotes.hidden {v = w} {w = x} {c = c} slash char rest) within =
    let within' : v.at ≤ length w.text = omega (arith, within, ap length slash.same) in
    let others = quoted_characters rest (omega (arith, within', ap length char.same)) in
    let second : between w v ≡ encode_utf8_all (c ∷ others.characters) =
    spelt_more w x v c others.characters (char_parted char (ahead_quoted_parts rest) within') others.spelt in
    record {
      characters = 92 ∷ c ∷ others.characters;
      spelt = spelt_more u w v 92 (c ∷ others.characters)
          (char_parted slash (ahead_then (ahead_char char) (ahead_quoted_parts rest)) within) second;
      skipped = others.skipped;
    }

-- the characters of UTF-8 text between the quotes of a literal can be between quotes
pub quoted_fit : {u v : Place} → QuotedParts u v → v.at ≤ length u.text → IsUtf8 (between u v)
    → text_fits true false 0 (chars (between u v)) ≡ true
quoted_fit {u} {v} x within utf8 =
    let found = quoted_characters x within in
    ap (text_fits true false 0) (chars_whole found.characters (between u v) utf8 found.spelt) ∙ found.skipped

-- ---- the characters of a literal in braces

-- in braces, `text_fits` is the test for balanced braces
abbrev AreSameTests : ℕ → List ℕ → ℕ → Type 0
AreSameTests d cs c = text_fits false false d (c ∷ cs) ≡ close_braces false d (c ∷ cs)

fits_braces : (h : Bool) (d : ℕ) (cs : List ℕ) → text_fits false h d cs ≡ close_braces h d cs
fits_braces false d [] = refl
fits_braces true d [] = refl
fits_braces true d (c ∷ cs) = fits_braces false d cs
fits_braces false d (c ∷ cs) =
    elim (cases_eq c 34) [
      | inl quote ↦ subst (AreSameTests d cs) (sym quote) (fits_braces false d cs)
      | inr no_quote ↦ elim (cases_eq c 92) [
        | inl slash ↦ subst (AreSameTests d cs) (sym slash) (fits_braces true d cs)
        | inr no_slash ↦ elim (cases_eq c 123) [
          | inl opens ↦ subst (AreSameTests d cs) (sym opens) (fits_braces false (suc d) cs)
          | inr no_open ↦ elim (cases_eq c 125) [
            | inl closes ↦ subst (AreSameTests d cs) (sym closes) (ap (λ x. nat_lt 0 d && x) (fits_braces false (d - 1) cs))
            | inr no_close ↦
                over_dull false d c cs
                (record { no_slash = no_slash; no_quote = no_quote; no_open = no_open; no_close = no_close })
                ∙ fits_braces false d cs ∙ sym (other_byte c d cs no_slash no_open no_close)
          ]
        ]
      ]
    ]

-- characters between two places fit in braces exactly if they are parts of a braced text
parts_by_fit : (cs : List ℕ) {u v : Place} → Stands u (encode_utf8_all cs) v
    → MatchBool (text_fits false false 0 cs) (Parts u v) (Parts u v → ⊥)
parts_by_fit cs {u} {v} s =
    subst (λ b. MatchBool b (Parts u v) (Parts u v → ⊥)) (tested_by_bytes false 0 cs ∙ sym (fits_braces false 0 cs))
    (parts_tested cs (drop v.at u.text) u v s.here s.same s.next)

-- the characters of UTF-8 text between the braces of a literal have balanced braces
pub parts_fit : {u v : Place} → Parts u v → v.at ≤ length u.text → IsUtf8 (between u v)
    → text_fits false false 0 (chars (between u v)) ≡ true
parts_fit {u} {v} x within utf8 =
    let s = stands_between (ahead_parts x) within in
    let same = encodes-chars (between u v) utf8 in
    holds_so (text_fits false false 0 (chars (between u v))) x
    (parts_by_fit (chars (between u v)) (subst (λ t. Stands u t v) (sym same) s))
  where
    holds_so : (b : Bool) → Parts u v → MatchBool b (Parts u v) (Parts u v → ⊥) → b ≡ true
    holds_so true p decided = refl
    holds_so false p decided = absurd (decided p)

pub parts_stand : (cs : List ℕ) {u v : Place} → Stands u (encode_utf8_all cs) v → text_fits false false 0 cs ≡ true → Parts u v
parts_stand cs {u} {v} s is = when_true (Parts u v) (Parts u v → ⊥) is (parts_by_fit cs s)

-- ---- other characters in quotes

unquoted_from : (c : ℕ) → (c ≡ 34 → ⊥) → (c ≡ 92 → ⊥) → not (c == 34) && not (c == 92) ≡ true
unquoted_from c no_quote no_slash = ap (λ x. not x && not (c == 92)) (ne_eqb c 34 no_quote) ∙ ap not (ne_eqb c 92 no_slash)

-- the text from a place, or from a backslash before it, can be between quotes
abbrev QuotedFrom : Bool → Place → Place → Type 0
QuotedFrom false u v = QuotedParts u v
QuotedFrom true u v = (t : Place) → CharAt t 92 u → QuotedParts t v

quotes_stand : (h : Bool) (cs : List ℕ) (u v : Place) → Stands u (encode_utf8_all cs) v → text_fits true h 0 cs ≡ true → QuotedFrom h u v
quotes_stand false [] u v s is = subst (λ p. QuotedParts u p) (nothing s) quotes.none
quotes_stand true [] u v s is = absurd (cc)
quotes_stand true (c ∷ cs) u v s is = λ t slash.
    quotes.hidden slash (char_stands c (first_part (encode_utf8 c) (encode_utf8_all cs) s))
    (quotes_stand false cs (past u (encode_utf8 c)) v (last_part (encode_utf8 c) (encode_utf8_all cs) s) is)
quotes_stand false (c ∷ cs) u v s is =
    let w : Place = past u (encode_utf8 c) in
    let char : CharAt u c w = char_stands c (first_part (encode_utf8 c) (encode_utf8_all cs) s) in
    let rest : Stands w (encode_utf8_all cs) v = last_part (encode_utf8 c) (encode_utf8_all cs) s in
    elim (cases_eq c 92) [
      | inl slash ↦ quotes_stand true cs w v rest (subst (λ x. text_fits true false 0 (x ∷ cs) ≡ true) slash is) u
          (subst (λ x. CharAt u x w) slash char)
      | inr no_slash ↦ elim (cases_eq c 34) [
        | inl quote ↦
            let bad : text_fits true false 0 (34 ∷ cs) ≡ true = subst (λ x. text_fits true false 0 (x ∷ cs) ≡ true) quote is in
            absurd (cc)
        | inr no_quote ↦
            let passes = unquoted_from c no_quote no_slash in
            quotes.plain char passes (quotes_stand false cs w v rest (sym (over_unquoted c cs passes) ∙ is))
      ]
    ]

pub quoted_stand : (cs : List ℕ) {u v : Place} → Stands u (encode_utf8_all cs) v → text_fits true false 0 cs ≡ true → QuotedParts u v
quoted_stand cs {u} {v} s is = quotes_stand false cs u v s is
