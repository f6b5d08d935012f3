-- Texts without the names of commands.
use Rattle.std.proofs.Common.{◌≡◌, ◌≢◌, ℕ, zero, suc, ◌+◌, ◌<◌, ◌≤◌, Bool, List, [], ◌∷◌, ◌++◌, length, get_or, refl, sym, ◌∙◌, ap, subst, arith, cond, eqb-true}
use Rattle.std.specs.Prelude.{◌==◌, true, false, not, nat_lt, Option, Some, None, IsUtf8, IsCharBoundary}
use Rattle.std.specs.Char.{is_ascii_alphabetic}
use Rattle.std.specs.List.{after_first, before_first, flat_map, onto_first, position_or_len, prefix_len, slice_split}
use Rattle.std.specs.Option.{unwrap_or}
use Rattle.std.proofs.lemmas.Bool.Decides.{nat_tests}
use Rattle.std.proofs.lemmas.List.Splits.{slice_split_first}
use Rattle.std.proofs.lemmas.List.Sums.{prefix_len-le-length, prefix_len_passes}
use Rattle.std.proofs.lemmas.List.{append-nil}
use Rattle.std.proofs.lemmas.Str.{IsCharBoundary-after_ascii, IsCharBoundary-start}
use Rattle.bib_text.proofs.DigitFacts.{letter_small}
use Rattle.bib_keys.specs.Commands.{joined_commands, name_len, without_name, without_names, without_space}

-- in a UTF-8 text, the offset after a name is a character boundary
pub name_ends : (text : List ℕ) (n : ℕ) → IsUtf8 text → n ≡ name_len text → IsCharBoundary text n
name_ends text zero utf8 is = IsCharBoundary-start text utf8
name_ends text (suc n) utf8 is =
    let within : n < length text = omega (arith, is, prefix_len-le-length is_ascii_alphabetic text) in
    let letter = prefix_len_passes is_ascii_alphabetic text n 0 (omega (arith, is)) in
    subst (IsCharBoundary text) (one_more n) (IsCharBoundary-after_ascii text n utf8 within (letter_small (get_or text n 0) letter)) where
      one_more : (m : ℕ) → m + 1 ≡ suc m
      one_more m = omega arith

-- the number of elements before the first that fails a test is that of the elements that pass before it
same_count : (test : ℕ → Bool) (l : List ℕ) → position_or_len (λ c. not (test c)) l ≡ prefix_len test l
same_count test [] = refl
same_count test (c ∷ l) = of (test c) (same_count test l) where
  of : (b : Bool) → position_or_len (λ d. not (test d)) l ≡ prefix_len test l
      → cond (not (not b)) (1 + position_or_len (λ d. not (test d)) l) 0 ≡ cond b (1 + prefix_len test l) 0
  of true same = ap (λ n. 1 + n) same
  of false same = refl

-- the index of the first byte that is no letter, or the length if there is none, is the length of the name
pub name_len_found : (bytes : List ℕ) (found : Option ℕ)
    → found ≡ cond (nat_lt (position_or_len (λ c. not (is_ascii_alphabetic c)) bytes) (length bytes))
    (Some (position_or_len (λ c. not (is_ascii_alphabetic c)) bytes)) None
    → unwrap_or found (length bytes) ≡ name_len bytes
name_len_found bytes found is =
    ap (λ o. unwrap_or o (length bytes)) is
    ∙ of (position_or_len (λ c. not (is_ascii_alphabetic c)) bytes) (same_count is_ascii_alphabetic bytes)
    (prefix_len-le-length is_ascii_alphabetic bytes) where
      of : (n : ℕ) → n ≡ name_len bytes → name_len bytes ≤ length bytes
          → unwrap_or (cond (nat_lt n (length bytes)) (Some n) None) (length bytes) ≡ name_len bytes
      of n same bound = chosen (nat_lt n (length bytes)) refl where
        chosen : (b : Bool) → nat_lt n (length bytes) ≡ b → unwrap_or (cond b (Some n) None) (length bytes) ≡ name_len bytes
        chosen true within = same
        chosen false beyond = grind (arith, nat_tests)

-- a list of which no element passes the test is one part
one_part : (test : ℕ → Bool) (l : List ℕ) → position_or_len test l ≡ length l → slice_split test l ≡ l ∷ []
one_part test [] whole = refl
one_part test (c ∷ l) whole = of (test c) whole (one_part test l) where
  of : (b : Bool) → cond (not b) (1 + position_or_len test l) 0 ≡ length (c ∷ l)
      → (position_or_len test l ≡ length l → slice_split test l ≡ l ∷ [])
      → cond b ([] ∷ slice_split test l) (onto_first c (slice_split test l)) ≡ (c ∷ l) ∷ []
  of true none rest = absurd (omega (arith, none))
  of false more rest = ap (onto_first c) (rest (omega (arith, more)))

-- `without_names` leaves a text without backslashes unchanged
pub no_commands : (is_math : Bool) (text : List ℕ) → position_or_len (λ b. b == 92) text ≡ length text → text ≡ without_names is_math text
no_commands is_math text whole = sym (ap (joined_commands is_math) (one_part (λ b. b == 92) text whole) ∙ append-nil text)

-- for a text with a backslash, `without_names` gives the text before the first backslash, and then each part after a backslash, changed by
-- `without_name`
pub after_backslashes : (is_math : Bool) (text : List ℕ) → position_or_len (λ b. b == 92) text < length text
    → before_first (λ b. b == 92) text ++ flat_map (without_name is_math) (slice_split (λ b. b == 92) (after_first (λ b. b == 92) text))
    ≡ without_names is_math text
after_backslashes is_math text within = sym (ap (joined_commands is_math) (slice_split_first (λ b. b == 92) text 0 within))

-- a text that doesn't begin with a space is unchanged
pub no_space : (text : List ℕ) → ((rest : List ℕ) → text ≢ 32 ∷ rest) → text ≡ without_space text
no_space [] none = refl
no_space (c ∷ text) none = of (c == 32) refl where
  of : (b : Bool) → (c == 32) ≡ b → c ∷ text ≡ cond b text (c ∷ text)
  of true space = absurd (none text (ap (λ d. d ∷ text) (eqb-true _ _ space)))
  of false other = refl
