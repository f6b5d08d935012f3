-- Braces of a text, counted from its start.
use Rattle.std.proofs.Common.{◌≡◌, ◌⊎◌, inl, inr, ℕ, zero, suc, ◌+◌, ◌-◌, ◌<◌, ◌≤◌, Bool, true, false, cond, List, length, take, get_or, refl, sym, ap, ◌∙◌, subst, arith, MatchBool}
use Rattle.std.specs.Prelude.{◌==◌, nat_lt, not}
use Rattle.std.proofs.lemmas.Bool.Decides.{nat_tests}
use Rattle.std.proofs.lemmas.List.{take_all}
use Rattle.std.proofs.lemmas.List.Filters.{length-filter_more}
use Rattle.std.proofs.lemmas.Bool.{and_parts, and_from}
use Rattle.bib_queries.specs.Balance.{IsBalanced, byte_count, closes_opened, is_balanced}

-- no prefix of the first `i` bytes has more closing braces than opening ones, and `depth` braces are open after them
pub record IsCounted (text : List ℕ) (i depth : ℕ) : Type 0 where
  pub open_braces : depth + byte_count 125 (take i text) ≡ byte_count 123 (take i text)
  pub closes : (n : ℕ) → n ≤ i → byte_count 125 (take n text) ≤ byte_count 123 (take n text)
  pub small : depth ≤ i

at_or_before : (n i : ℕ) → n ≤ i + 1 → (n ≡ i + 1) ⊎ (n ≤ i)
at_or_before zero i within = inr (omega arith)
at_or_before (suc n) zero within = inl (omega (arith, within))
at_or_before (suc n) (suc i) within = by_rest (at_or_before n i (omega (arith, within)))
  where
    by_rest : (n ≡ i + 1) ⊎ (n ≤ i) → (suc n ≡ suc i + 1) ⊎ (suc n ≤ suc i)
    by_rest (inl same) = inl (omega (arith, same))
    by_rest (inr less) = inr (omega (arith, less))

-- if no prefix up to length `i` and not the one of length `i + 1` has more closing braces, none of these has
one_more : (text : List ℕ) (i : ℕ) → ((n : ℕ) → n ≤ i → byte_count 125 (take n text) ≤ byte_count 123 (take n text))
    → byte_count 125 (take (i + 1) text) ≤ byte_count 123 (take (i + 1) text) → (n : ℕ) → n ≤ i + 1
    → byte_count 125 (take n text) ≤ byte_count 123 (take n text)
one_more text i before this n within = by_place (at_or_before n i within)
  where
    by_place : (n ≡ i + 1) ⊎ (n ≤ i) → byte_count 125 (take n text) ≤ byte_count 123 (take n text)
    by_place (inl same) = subst (λ m. byte_count 125 (take m text) ≤ byte_count 123 (take m text)) (sym same) this
    by_place (inr less) = before n less

module _ (text : List ℕ) (i depth byte : ℕ) (within : i < length text) (is : byte ≡ get_or text i byte) (counted : IsCounted text i depth)
  where
    more : (c : ℕ) (b : Bool) → (byte == c) ≡ b → byte_count c (take (i + 1) text) ≡ byte_count c (take i text) + cond b 1 0
    more c b test =
        length-filter_more (λ x. x == c) text i byte within
        ∙ ap (λ x. byte_count c (take i text) + cond (x == c) 1 0) (sym is) ∙ ap (λ t. byte_count c (take i text) + cond t 1 0) test

    pub opening_brace : (byte == 123) ≡ true → IsCounted text (i + 1) (depth + 1)
    opening_brace opens =
        let closing : (byte == 125) ≡ false = grind (arith, nat_tests) in
        let now : depth + 1 + byte_count 125 (take (i + 1) text) ≡ byte_count 123 (take (i + 1) text) =
        omega (arith, counted.open_braces, more 123 true opens, more 125 false closing) in
        record {
          open_braces = now;
          closes = one_more text i counted.closes (omega (arith, now));
          small = omega (arith, counted.small);
        }

    pub closing_brace : (byte == 123) ≡ false → (byte == 125) ≡ true → 0 < depth → IsCounted text (i + 1) (depth - 1)
    closing_brace opens closing some =
        let now : depth - 1 + byte_count 125 (take (i + 1) text) ≡ byte_count 123 (take (i + 1) text) =
        omega (arith, some, counted.open_braces, more 123 false opens, more 125 true closing) in
        record {
          open_braces = now;
          closes = one_more text i counted.closes (omega (arith, now));
          small = omega (arith, counted.small);
        }

    pub other_byte : (byte == 123) ≡ false → (byte == 125) ≡ false → IsCounted text (i + 1) depth
    other_byte opens closing =
        let now : depth + byte_count 125 (take (i + 1) text) ≡ byte_count 123 (take (i + 1) text) =
        omega (arith, counted.open_braces, more 123 false opens, more 125 false closing) in
        record {
          open_braces = now;
          closes = one_more text i counted.closes (omega (arith, now));
          small = omega (arith, counted.small);
        }

    -- if no brace is open before a closing brace, the text isn't balanced
    pub closes_none : (byte == 123) ≡ false → (byte == 125) ≡ true → depth ≡ 0 → IsBalanced text → ⊥
    closes_none opens closing none balanced =
        omega (
          arith,
          none,
          counted.open_braces,
          more 123 false opens,
          more 125 true closing,
          balanced.closes (i + 1),
        )

pub counted_start : (text : List ℕ) → IsCounted text 0 0
counted_start text = record { open_braces = refl; closes = λ n within. start n within; small = omega arith }
  where
    start : (n : ℕ) → n ≤ 0 → byte_count 125 (take n text) ≤ byte_count 123 (take n text)
    start zero within = omega arith
    start (suc n) within = absurd (omega (arith, within))

-- all bytes of the text are counted
module _ (text : List ℕ) (i depth : ℕ) (past : length text ≤ i) (counted : IsCounted text i depth) where
  whole : take i text ≡ text
  whole = take_all i text past

  pub all_closed : depth ≡ 0 → IsBalanced text
  all_closed none = record { closes = λ n. prefix n (earlier n i); closed = closed }
    where
      closed : byte_count 123 text ≡ byte_count 125 text
      closed = omega (arith, ap (byte_count 123) whole, ap (byte_count 125) whole, counted.open_braces, none)

      earlier : (n m : ℕ) → (n ≤ m) ⊎ (m ≤ n)
      earlier zero m = inl (omega arith)
      earlier (suc n) zero = inr (omega arith)
      earlier (suc n) (suc m) = by_rest (earlier n m)
        where
          by_rest : (n ≤ m) ⊎ (m ≤ n) → (suc n ≤ suc m) ⊎ (suc m ≤ suc n)
          by_rest (inl less) = inl (omega (arith, less))
          by_rest (inr past') = inr (omega (arith, past'))

      prefix : (n : ℕ) → (n ≤ i) ⊎ (i ≤ n) → byte_count 125 (take n text) ≤ byte_count 123 (take n text)
      prefix n (inl less) = counted.closes n less
      prefix n (inr later) =
          let all : take n text ≡ text = take_all n text (omega (arith, past, later)) in
          subst (λ xs. byte_count 125 xs ≤ byte_count 123 xs) (sym all) (omega (arith, closed))

  pub one_open : (depth ≡ 0 → ⊥) → IsBalanced text → ⊥
  one_open some balanced =
      some
      (omega (
        arith,
        subst (λ xs. depth + byte_count 125 xs ≡ byte_count 123 xs) whole counted.open_braces,
        balanced.closed,
      ))

-- ---- the test and the record agree

opened_each : (text : List ℕ) (n m : ℕ) → closes_opened n text ≡ true → m ≤ n
    → byte_count 125 (take m text) ≤ byte_count 123 (take m text)
opened_each text n zero is within = omega arith
opened_each text zero (suc m) is within = absurd (omega (arith, within))
opened_each text (suc n) (suc m) is within =
    let parts =
    and_parts (not (nat_lt (byte_count 123 (take (suc n) text)) (byte_count 125 (take (suc n) text)))) (closes_opened n text) is in
    let first = parts.0 in
    let last : byte_count 125 (take (suc n) text) ≤ byte_count 123 (take (suc n) text) = grind (arith, nat_tests, first) in
    elim (at_or_before (suc m) n (omega (arith, within))) [
      | inl same ↦
          let same' : n ≡ m = omega (arith, same) in
          subst (λ k. byte_count 125 (take (suc k) text) ≤ byte_count 123 (take (suc k) text)) same' last
      | inr less ↦ opened_each text n (suc m) parts.1 less
    ]

each_opened : (text : List ℕ) (n : ℕ) → ((m : ℕ) → byte_count 125 (take m text) ≤ byte_count 123 (take m text))
    → closes_opened n text ≡ true
each_opened text zero each = refl
each_opened text (suc n) each =
    let this = each (suc n) in
    and_from (not (nat_lt (byte_count 123 (take (suc n) text)) (byte_count 125 (take (suc n) text)))) (closes_opened n text)
    (grind (arith, nat_tests, this)) (each_opened text n each)

pub balanced_test : (text : List ℕ) → IsBalanced text → is_balanced text ≡ true
balanced_test text balanced =
    let closed = balanced.closed in
    and_from (closes_opened (length text) text) (byte_count 123 text == byte_count 125 text)
    (each_opened text (length text) balanced.closes)
    (grind (arith, nat_tests, closed))

pub test_balanced : (text : List ℕ) → is_balanced text ≡ true → IsBalanced text
test_balanced text is = record { closes = λ n. prefix n (earlier n (length text)); closed = closed }
  where
    parts : (closes_opened (length text) text ≡ true) × ((byte_count 123 text == byte_count 125 text) ≡ true)
    parts = and_parts _ _ is

    closed : byte_count 123 text ≡ byte_count 125 text
    closed = let second = parts.1 in grind (arith, nat_tests, second)

    earlier : (n m : ℕ) → (n ≤ m) ⊎ (m ≤ n)
    earlier zero m = inl (omega arith)
    earlier (suc n) zero = inr (omega arith)
    earlier (suc n) (suc m) = by_rest (earlier n m)
      where
        by_rest : (n ≤ m) ⊎ (m ≤ n) → (suc n ≤ suc m) ⊎ (suc m ≤ suc n)
        by_rest (inl less) = inl (omega (arith, less))
        by_rest (inr past') = inr (omega (arith, past'))

    prefix : (n : ℕ) → (n ≤ length text) ⊎ (length text ≤ n) → byte_count 125 (take n text) ≤ byte_count 123 (take n text)
    prefix n (inl less) = opened_each text (length text) n parts.0 less
    prefix n (inr later) =
        subst (λ xs. byte_count 125 xs ≤ byte_count 123 xs) (sym (take_all n text later)) (omega (arith, closed))

-- a test that is true exactly if a text is balanced returns `is_balanced`
pub test_is : (text : List ℕ) (b : Bool) → (b ≡ true → IsBalanced text) → (b ≡ false → IsBalanced text → ⊥) → b ≡ is_balanced text
test_is text true passed failed = sym (balanced_test text (passed refl))
test_is text false passed failed = by_case (is_balanced text) refl
  where
    by_case : (c : Bool) → is_balanced text ≡ c → false ≡ c
    by_case true is = absurd (failed refl (test_balanced text is))
    by_case false is = refl

-- the result of a test whose contract is that it decides `IsBalanced` is `is_balanced`
pub balance_is : (text : List ℕ) (b : Bool) → MatchBool b (IsBalanced text) (IsBalanced text → ⊥) → b ≡ is_balanced text
balance_is text true balanced = test_is text true (λ is. balanced) (λ is. absurd (cc))
balance_is text false unbalanced = test_is text false (λ is. absurd (cc)) (λ is. unbalanced)
