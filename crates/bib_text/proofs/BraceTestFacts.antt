-- The test for balanced braces: its steps over bytes and characters, and what it decides.
use Rattle.std.proofs.Common.{◌≡◌, inl, inr, ℕ, zero, suc, ◌+◌, ◌-◌, ◌≤◌, Bool, true, false, cond, List, [], ◌∷◌, ◌++◌, length, MatchBool, refl, sym, ap, ◌∙◌, subst, arith, append_assoc, append-nil, length-append}
use Rattle.std.specs.Prelude.{◌==◌, ◌&&◌, ◌↔◌, encode_utf8, encode_utf8_all, nat_lt}
use Rattle.std.specs.Char.{len_utf8}
use Rattle.std.specs.List.{AllByRecursion}
use Rattle.std.specs.Str.{IsUtf8, chars}
use Rattle.std.proofs.lemmas.Bool.{cases_eq, lt-ltb, ne_eqb}
use Rattle.std.proofs.lemmas.Str.{drop_past_char, encode_ascii, encodes-chars, length-encode}
use Rattle.bib_text.specs.Places.{CharAt, Place, place}
use Rattle.bib_text.specs.Braces.{IsParts, Parts, close_braces, has_balanced_braces}
use Rattle.bib_text.specs.OpenBraces.{ClosesOpen}
use Rattle.bib_text.specs.OpenBraces.ClosesOpen.{last}
use Rattle.bib_text.proofs.BoolFacts.{iff_cases}
use Rattle.bib_text.proofs.BraceFacts.{closes_close_none, closes_close, closes_end, closes_hidden, closes_open, closes_plain, closes_slash_end, closes_zero, is_plain_from}
use Rattle.bib_text.proofs.EncodedFacts.{Encoded, encoded}
use Rattle.bib_text.proofs.PlaceFacts.{char_here, same_place}
use Rattle.bib_text.proofs.TextFacts.{ahead}

-- ---- one byte

pub other_byte : (b depth : ℕ) (bs : List ℕ) → (b ≡ 92 → ⊥) → (b ≡ 123 → ⊥) → (b ≡ 125 → ⊥)
    → close_braces false depth (b ∷ bs) ≡ close_braces false depth bs
other_byte b depth bs no_slash no_open no_close =
    let hidden : Bool = close_braces true depth bs in
    let opened : Bool = close_braces false (suc depth) bs in
    let closed : Bool = nat_lt 0 depth && close_braces false (depth - 1) bs in
    let over : Bool = close_braces false depth bs in
    ap (λ x. cond x hidden (cond (b == 123) opened (cond (b == 125) closed over))) (ne_eqb b 92 no_slash)
    ∙ ap (λ x. cond x opened (cond (b == 125) closed over)) (ne_eqb b 123 no_open)
    ∙ ap (λ x. cond x closed over) (ne_eqb b 125 no_close)

pub hidden_byte : (h h' : Bool) (d d' b : ℕ) (bs : List ℕ) → h ≡ true → h' ≡ false → d' ≡ d
    → close_braces h d (b ∷ bs) ≡ close_braces h' d' bs
hidden_byte h h' d d' b bs was is depth =
    ap (λ x. close_braces x d (b ∷ bs)) was ∙ ap (λ x. close_braces x d bs) (sym is) ∙ ap (λ n. close_braces h' n bs) (sym depth)

pub slash_byte : (h h' : Bool) (d d' b : ℕ) (bs : List ℕ) → h ≡ false → b ≡ 92 → h' ≡ true → d' ≡ d
    → close_braces h d (b ∷ bs) ≡ close_braces h' d' bs
slash_byte h h' d d' b bs was slash is depth =
    ap (λ x. close_braces x d (b ∷ bs)) was ∙ ap (λ c. close_braces false d (c ∷ bs)) slash
    ∙ ap (λ x. close_braces x d bs) (sym is) ∙ ap (λ n. close_braces h' n bs) (sym depth)

pub open_byte : (h h' : Bool) (d d' b : ℕ) (bs : List ℕ) → h ≡ false → b ≡ 123 → h' ≡ h → d' ≡ d + 1
    → close_braces h d (b ∷ bs) ≡ close_braces h' d' bs
open_byte h h' d d' b bs was opens is depth =
    let more : suc d ≡ d' = omega (arith, depth) in
    ap (λ x. close_braces x d (b ∷ bs)) was ∙ ap (λ c. close_braces false d (c ∷ bs)) opens
    ∙ ap (λ x. close_braces x (suc d) bs) (sym (is ∙ was)) ∙ ap (λ n. close_braces h' n bs) more

pub close_byte : (h h' : Bool) (d d' b : ℕ) (bs : List ℕ) → h ≡ false → b ≡ 125 → (d ≡ 0 → ⊥) → h' ≡ h → d' ≡ d - 1
    → close_braces h d (b ∷ bs) ≡ close_braces h' d' bs
close_byte h h' d d' b bs was closes some is depth =
    ap (λ x. close_braces x d (b ∷ bs)) was ∙ ap (λ c. close_braces false d (c ∷ bs)) closes
    ∙ ap (λ x. x && close_braces false (d - 1) bs) (lt-ltb 0 d (omega (arith, some)))
    ∙ ap (λ x. close_braces x (d - 1) bs) (sym (is ∙ was)) ∙ ap (λ n. close_braces h' n bs) (sym depth)

pub plain_byte : (h h' : Bool) (d d' b : ℕ) (bs : List ℕ) → h ≡ false → (b ≡ 92 → ⊥) → (b ≡ 123 → ⊥) → (b ≡ 125 → ⊥)
    → h' ≡ h → d' ≡ d → close_braces h d (b ∷ bs) ≡ close_braces h' d' bs
plain_byte h h' d d' b bs was no_slash no_open no_close is depth =
    ap (λ x. close_braces x d (b ∷ bs)) was ∙ other_byte b d bs no_slash no_open no_close
    ∙ ap (λ x. close_braces x d bs) (sym (is ∙ was)) ∙ ap (λ n. close_braces h' n bs) (sym depth)

-- ---- one character

high_bytes : (depth : ℕ) (bs rest : List ℕ) → AllByRecursion (λ x. 128 ≤ x) bs
    → close_braces false depth (bs ++ rest) ≡ close_braces false depth rest
high_bytes depth [] rest all = refl
high_bytes depth (b ∷ bs) rest all =
    other_byte b depth (bs ++ rest) (λ same. omega (arith, same, all.0)) (λ same. omega (arith, same, all.0))
    (λ same. omega (arith, same, all.0)) ∙ high_bytes depth bs rest all.1

over_other : (c depth : ℕ) (rest : List ℕ) → (c ≡ 92 → ⊥) → (c ≡ 123 → ⊥) → (c ≡ 125 → ⊥)
    → close_braces false depth (encode_utf8 c ++ rest) ≡ close_braces false depth rest
over_other c depth rest no_slash no_open no_close = by (encoded c)
  where
    by : {bytes : List ℕ} → Encoded c bytes → close_braces false depth (bytes ++ rest) ≡ close_braces false depth rest
    by (Encoded.one small) = other_byte c depth rest no_slash no_open no_close
    by (Encoded.wide {b = b} {bs = bs} large all) = high_bytes depth (b ∷ bs) rest all

over_hidden : (c depth : ℕ) (rest : List ℕ) → close_braces true depth (encode_utf8 c ++ rest) ≡ close_braces false depth rest
over_hidden c depth rest = by (encoded c)
  where
    by : {bytes : List ℕ} → Encoded c bytes → close_braces true depth (bytes ++ rest) ≡ close_braces false depth rest
    by (Encoded.one small) = refl
    by (Encoded.wide {bs = bs} large all) = high_bytes depth bs rest all.1

over_slash : (depth : ℕ) (rest : List ℕ) → close_braces false depth (encode_utf8 92 ++ rest) ≡ close_braces true depth rest
over_slash depth rest = ap (λ t. close_braces false depth (t ++ rest)) (encode_ascii 92 (omega arith))

over_open : (depth : ℕ) (rest : List ℕ) → close_braces false depth (encode_utf8 123 ++ rest) ≡ close_braces false (suc depth) rest
over_open depth rest = ap (λ t. close_braces false depth (t ++ rest)) (encode_ascii 123 (omega arith))

over_close : (depth : ℕ) (rest : List ℕ) → close_braces false (suc depth) (encode_utf8 125 ++ rest) ≡ close_braces false depth rest
over_close depth rest =
    let less : suc depth - 1 ≡ depth = omega arith in
    ap (λ t. close_braces false (suc depth) (t ++ rest)) (encode_ascii 125 (omega arith))
    ∙ ap (λ x. x && close_braces false (suc depth - 1) rest) (lt-ltb 0 (suc depth) (omega arith))
    ∙ ap (λ n. close_braces false n rest) less

none_to_close : (rest : List ℕ) → close_braces false 0 (encode_utf8 125 ++ rest) ≡ false
none_to_close rest = ap (λ t. close_braces false 0 (t ++ rest)) (encode_ascii 125 (omega arith))

-- ---- what the test decides

-- a test of a statement after one more character is a test of the statement before it
by_step : {A B : Type 0} {b b' : Bool} → b ≡ b' → A ↔ B → MatchBool b' B (B → ⊥) → MatchBool b A (A → ⊥)
by_step {A} {B} {b} {b'} step same decided = subst (λ x. MatchBool x A (A → ⊥)) (sym step) (iff_cases b' same decided)

-- the test decides whether the text up to `e` closes the open braces. The text begins at `u`, or, if its first byte is escaped, at the
-- backslash before `u`
abbrev Decided : Bool → ℕ → List ℕ → Place → Place → Type 0
Decided false n bytes u e = MatchBool (close_braces false n bytes) (ClosesOpen n u e) (ClosesOpen n u e → ⊥)
Decided true n bytes u e = (s : Place) → CharAt s 92 u → MatchBool (close_braces true n bytes) (ClosesOpen n s e) (ClosesOpen n s e → ⊥)

-- the first of some characters, and the place after it
record First (c : ℕ) (cs rest : List ℕ) (u e : Place) : Type 0 where
  next : Place
  char : CharAt u c next
  after : ahead next ≡ encode_utf8_all cs ++ rest
  text : e.text ≡ next.text
  at : e.at ≡ next.at + length (encode_utf8_all cs)
  within : next.at ≤ e.at

first : (c : ℕ) (cs rest : List ℕ) (u e : Place) → ahead u ≡ encode_utf8_all (c ∷ cs) ++ rest → e.text ≡ u.text
    → e.at ≡ u.at + length (encode_utf8_all (c ∷ cs)) → First c cs rest u e
first c cs rest u e here text at =
    let begins : ahead u ≡ encode_utf8 c ++ (encode_utf8_all cs ++ rest) =
    here ∙ append_assoc (encode_utf8 c) (encode_utf8_all cs) rest in
    let sizes : length (encode_utf8_all (c ∷ cs)) ≡ len_utf8 c + length (encode_utf8_all cs) =
    length-append (encode_utf8 c) (encode_utf8_all cs) ∙ ap (λ n. n + length (encode_utf8_all cs)) (length-encode c) in
    record {
      next = place u.text (u.at + len_utf8 c);
      char = char_here u.text (encode_utf8_all cs ++ rest) u.at c begins;
      after = drop_past_char u.text (encode_utf8_all cs ++ rest) u.at c begins;
      text = text;
      at = omega (arith, at, sizes);
      within = omega (arith, at, sizes);
    }

close_decided : (n : ℕ) (bytes : List ℕ) (e : Place) {u v : Place} → CharAt u 125 v → v.at ≤ e.at
    → ((m : ℕ) → MatchBool (close_braces false m bytes) (ClosesOpen m v e) (ClosesOpen m v e → ⊥))
    → MatchBool (close_braces false n (encode_utf8 125 ++ bytes)) (ClosesOpen n u e) (ClosesOpen n u e → ⊥)
close_decided zero bytes e {u} {v} char within rest =
    subst (λ x. MatchBool x (ClosesOpen 0 u e) (ClosesOpen 0 u e → ⊥)) (sym (none_to_close bytes)) (closes_close_none e within char)
close_decided (suc m) bytes e {u} {v} char within rest = by_step (over_close m bytes) (closes_close m e char) (rest m)

closes_decided : (is_hidden : Bool) (n : ℕ) (cs rest : List ℕ) (u e : Place) → ahead u ≡ encode_utf8_all cs ++ rest
    → e.text ≡ u.text → e.at ≡ u.at + length (encode_utf8_all cs) → Decided is_hidden n (encode_utf8_all cs) u e
closes_decided false n [] rest u e here text at = closes_end n e (same_place {u = u} {v = e} (sym text) (omega (arith, at)))
closes_decided true n [] rest u e here text at = λ s slash.
    closes_slash_end n e slash (same_place {u = u} {v = e} (sym text) (omega (arith, at)))
closes_decided true n (c ∷ cs) rest u e here text at = λ s slash.
    let f = first c cs rest u e here text at in
    let within : u.at ≤ e.at = omega (arith, at) in
    by_step (over_hidden c n (encode_utf8_all cs)) (closes_hidden n e within slash f.char)
    (closes_decided false n cs rest f.next e f.after f.text f.at)
closes_decided false n (c ∷ cs) rest u e here text at =
    let f = first c cs rest u e here text at in
    let bytes : List ℕ = encode_utf8_all cs in
    elim (cases_eq c 92) [
      | inl slash ↦ subst (λ x. MatchBool x (ClosesOpen n u e) (ClosesOpen n u e → ⊥))
          (sym (ap (λ d. close_braces false n (encode_utf8 d ++ bytes)) slash ∙ over_slash n bytes))
          (closes_decided true n cs rest f.next e f.after f.text f.at u (subst (λ d. CharAt u d f.next) slash f.char))
      | inr no_slash ↦ elim (cases_eq c 123) [
        | inl opens ↦ by_step (ap (λ d. close_braces false n (encode_utf8 d ++ bytes)) opens ∙ over_open n bytes)
            (closes_open n e f.within (subst (λ d. CharAt u d f.next) opens f.char))
            (closes_decided false (suc n) cs rest f.next e f.after f.text f.at)
        | inr no_open ↦ elim (cases_eq c 125) [
          | inl closes ↦ subst (λ d. MatchBool (close_braces false n (encode_utf8 d ++ bytes)) (ClosesOpen n u e) (ClosesOpen n u e → ⊥))
              (sym closes)
              (close_decided n bytes e (subst (λ d. CharAt u d f.next) closes f.char) f.within
              (λ m. closes_decided false m cs rest f.next e f.after f.text f.at))
          | inr no_close ↦ by_step (over_other c n bytes no_slash no_open no_close)
              (closes_plain n e f.within f.char (is_plain_from c no_open no_close no_slash) no_close)
              (closes_decided false n cs rest f.next e f.after f.text f.at)
        ]
      ]
    ]

-- the test of some characters decides whether they are parts of a braced text
pub parts_tested : (cs rest : List ℕ) (u e : Place) → ahead u ≡ encode_utf8_all cs ++ rest → e.text ≡ u.text
    → e.at ≡ u.at + length (encode_utf8_all cs)
    → MatchBool (close_braces false 0 (encode_utf8_all cs)) (Parts u e) (Parts u e → ⊥)
parts_tested cs rest u e here text at =
    iff_cases (close_braces false 0 (encode_utf8_all cs)) (last, closes_zero) (closes_decided false 0 cs rest u e here text at)

-- in UTF-8 text, a result of the test decides `IsParts`
pub parts_decided : (is : Bool) (text : List ℕ) → IsUtf8 text → is ≡ has_balanced_braces text
    → MatchBool is (IsParts text) (IsParts text → ⊥)
parts_decided is text utf8 same =
    let bytes : List ℕ = encode_utf8_all (chars text) in
    subst (λ b. MatchBool b (IsParts text) (IsParts text → ⊥)) (sym same)
    (subst (λ t. MatchBool (has_balanced_braces t) (IsParts t) (IsParts t → ⊥)) (encodes-chars text utf8)
    (parts_tested (chars text) [] (place bytes 0) (place bytes (length bytes)) (sym (append-nil bytes)) refl (omega arith)))

-- the test is the same for characters as for their bytes
pub tested_by_bytes : (is_hidden : Bool) (depth : ℕ) (cs : List ℕ)
    → close_braces is_hidden depth (encode_utf8_all cs) ≡ close_braces is_hidden depth cs
tested_by_bytes false depth [] = refl
tested_by_bytes true depth [] = refl
tested_by_bytes true depth (c ∷ cs) = over_hidden c depth (encode_utf8_all cs) ∙ tested_by_bytes false depth cs
tested_by_bytes false depth (c ∷ cs) =
    let bytes : List ℕ = encode_utf8_all cs in
    elim (cases_eq c 92) [
      | inl slash ↦ subst (λ d. close_braces false depth (encode_utf8 d ++ bytes) ≡ close_braces false depth (d ∷ cs)) (sym slash)
          (over_slash depth bytes ∙ tested_by_bytes true depth cs)
      | inr no_slash ↦ elim (cases_eq c 123) [
        | inl opens ↦ subst (λ d. close_braces false depth (encode_utf8 d ++ bytes) ≡ close_braces false depth (d ∷ cs)) (sym opens)
            (over_open depth bytes ∙ tested_by_bytes false (suc depth) cs)
        | inr no_open ↦ elim (cases_eq c 125) [
          | inl closes ↦ subst (λ d. close_braces false depth (encode_utf8 d ++ bytes) ≡ close_braces false depth (d ∷ cs)) (sym closes)
              (ap (λ t. close_braces false depth (t ++ bytes)) (encode_ascii 125 (omega arith))
              ∙ ap (λ x. nat_lt 0 depth && x) (tested_by_bytes false (depth - 1) cs))
          | inr no_close ↦ over_other c depth bytes no_slash no_open no_close ∙ tested_by_bytes false depth cs
              ∙ sym (other_byte c depth cs no_slash no_open no_close)
        ]
      ]
    ]
