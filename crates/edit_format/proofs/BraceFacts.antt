-- Texts with and without braces.
use Rattle.std.proofs.Common.{◌≡◌, ℕ, zero, suc, ◌<◌, Bool, true, false, List, [], ◌∷◌, length, take, refl, sym, ap, ◌∙◌, arith}
use Rattle.std.specs.Prelude.{◌||◌, ◌==◌, is_some, Option, Some, None, slice_index}
use Rattle.std.specs.List.{list_any}
use Rattle.memchr.specs.Find.{IsFirstByte, is_byte2}
use Rattle.bib_queries.specs.Balance.{IsBalanced, byte_count, is_balanced}
use Rattle.bib_queries.proofs.BalanceFacts.{balanced_test}
use Rattle.std.proofs.lemmas.List.{take_all}
use Rattle.std.proofs.lemmas.Bool.{or_parts}
use Rattle.std.proofs.Math.Bool.{or-true}

-- ---- the search for a byte

-- no byte of a text passes a test if none at any place does
none_passes : (test : ℕ → Bool) (text : List ℕ) → ((k : ℕ) → k < length text → test (slice_index text k) ≡ true → ⊥)
    → list_any test text ≡ false
none_passes test [] nowhere = refl
none_passes test (b ∷ text) nowhere =
    by_first (test b) refl (none_passes test text (λ k within. nowhere (suc k) (omega (arith, within))))
  where
    by_first : (c : Bool) → test b ≡ c → list_any test text ≡ false → (test b || list_any test text) ≡ false
    by_first true is rest = absurd (nowhere 0 (omega arith) is)
    by_first false is rest = ap (λ c. c || list_any test text) is ∙ rest

-- a byte of a text passes a test if one at a place does
one_passes : (test : ℕ → Bool) (text : List ℕ) (k : ℕ) → k < length text → test (slice_index text k) ≡ true → list_any test text ≡ true
one_passes test [] k within is = absurd (omega (arith, within))
one_passes test (b ∷ text) zero within is = ap (λ c. c || list_any test text) is
one_passes test (b ∷ text) (suc k) within is =
    ap (λ c. test b || c) (one_passes test text k (omega (arith, within)) is) ∙ or-true (test b)

-- a search finds a byte exactly if one passes the test
pub found_is : (test : ℕ → Bool) (text : List ℕ) (found : Option ℕ) → IsFirstByte test text found → is_some found ≡ list_any test text
found_is test text None nowhere = sym (none_passes test text (λ k within. nowhere k (omega arith) within))
found_is test text (Some k) first = sym (one_passes test text k first.0.high first.1)

-- ---- a text without braces

-- a byte that isn't counted doesn't change the count
skipped : (c b : ℕ) (text : List ℕ) → (b == c) ≡ false → byte_count c (b ∷ text) ≡ byte_count c text
skipped c b text is = rw (is) refl

-- the first bytes of a text without braces have no opening brace
no_opening : (n : ℕ) (text : List ℕ) → list_any (is_byte2 123 125) text ≡ false → byte_count 123 (take n text) ≡ 0
no_opening zero text none = refl
no_opening (suc n) [] none = refl
no_opening (suc n) (b ∷ text) none =
    let first = or_parts (is_byte2 123 125 b) (list_any (is_byte2 123 125) text) none in
    skipped 123 b (take n text) (or_parts (b == 123) (b == 125) first.0).0 ∙ no_opening n text first.1

no_closing : (n : ℕ) (text : List ℕ) → list_any (is_byte2 123 125) text ≡ false → byte_count 125 (take n text) ≡ 0
no_closing zero text none = refl
no_closing (suc n) [] none = refl
no_closing (suc n) (b ∷ text) none =
    let first = or_parts (is_byte2 123 125 b) (list_any (is_byte2 123 125) text) none in
    skipped 125 b (take n text) (or_parts (b == 123) (b == 125) first.0).1 ∙ no_closing n text first.1

-- a text without braces is balanced
balanced_without : (text : List ℕ) → list_any (is_byte2 123 125) text ≡ false → IsBalanced text
balanced_without text none = record {
  closes = λ n. omega (arith, no_opening n text none, no_closing n text none);
  closed =
      let all = take_all (length text) text (omega arith) in
      sym (ap (byte_count 123) all) ∙ no_opening (length text) text none
      ∙ sym (sym (ap (byte_count 125) all) ∙ no_closing (length text) text none);
}

pub test_without : (text : List ℕ) → list_any (is_byte2 123 125) text ≡ false → is_balanced text ≡ true
test_without text none = balanced_test text (balanced_without text none)
