-- Words and texts as plain text.
use Rattle.std.proofs.Common.{◌≡◌, ℕ, ◌<◌, ◌≤◌, ◌⊎◌, Bool, List, [], ◌∷◌, ◌++◌, length, map, take, drop, get_or, refl, sym, ◌∙◌, ap, subst, arith, inl, inr, length-append, cond}
use Rattle.std.specs.Prelude.{false, encode_utf8}
use Rattle.std.specs.Char.{is_ascii_alphanumeric, to_ascii_uppercase}
use Rattle.std.specs.List.{filter}
use Rattle.std.proofs.lemmas.Bool.Decides.{nat_tests}
use Rattle.std.proofs.lemmas.Str.{char_from_byte, encode_ascii, len_utf8_bounds, length-encode}
use Rattle.std.proofs.lemmas.Bool.{cases_lt}
use Rattle.bib_keys.specs.Letters.{is_word_gap, letters_for, key_letter}
use Rattle.bib_keys.specs.Words.{in_case}
use Rattle.bib_keys.specs.declared.pattern.Case.TheVariants.{Capital}

not_below : (a b : ℕ) → ((a < b) → ⊥) → b ≤ a
not_below a b not = of (cases_lt a b) where
  of : (a < b) ⊎ (b ≤ a) → b ≤ a
  of (inl below) = absurd (not below)
  of (inr above) = above

-- a character that isn't ASCII is its own ASCII upper case
no_upper : (c : ℕ) → 128 ≤ c → to_ascii_uppercase c ≡ c
no_upper c h = grind (arith, nat_tests)

upper_small : (c : ℕ) → c < 128 → to_ascii_uppercase c < 128
upper_small c h = grind (arith, nat_tests)

-- a word with its first character in upper case is the word in the case `Capital`
pub capital_is : (word rest : List ℕ) (c : ℕ) → word ≡ encode_utf8 c ++ rest
    → encode_utf8 (to_ascii_uppercase c) ++ rest ≡ in_case Capital word
capital_is word rest c is = of (cases_lt c 128) where
  of : (c < 128) ⊎ (128 ≤ c) → encode_utf8 (to_ascii_uppercase c) ++ rest ≡ map to_ascii_uppercase (take 1 word) ++ drop 1 word
  of (inl small) =
      ap (λ l. l ++ rest) (encode_ascii (to_ascii_uppercase c) (upper_small c small))
      ∙ ap (λ w. map to_ascii_uppercase (take 1 w) ++ drop 1 w) (sym (is ∙ ap (λ l. l ++ rest) (encode_ascii c small)))
  of (inr great) = ap (λ d. encode_utf8 d ++ rest) (no_upper c great) ∙ sym is ∙ same word refl where
    same : (w : List ℕ) → w ≡ word → word ≡ map to_ascii_uppercase (take 1 word) ++ drop 1 word
    same [] empty =
        let none : length (encode_utf8 c ++ rest) ≡ 0 = ap length (sym (empty ∙ is)) in
        absurd (omega (arith, none, length-append (encode_utf8 c) rest, length-encode c, (len_utf8_bounds c).0))
    same (b ∷ w) first =
        let some : 0 < length word = subst (λ l. 0 < length l) first (omega arith) in
        let head : get_or word 0 0 ≡ b = ap (λ l. get_or l 0 0) (sym first) in
        let not_small : (b < 128) → ⊥ = λ small.
        let same : c ≡ get_or word 0 0 = char_from_byte word rest c is (omega (arith, head, small)) some in
        omega (arith, same, head, great, small) in
        let upper : to_ascii_uppercase b ≡ b = no_upper b (not_below b 128 not_small) in
        subst (λ l. l ≡ map to_ascii_uppercase (take 1 l) ++ drop 1 l) first (ap (λ x. x ∷ w) (sym upper))

-- the text for a character that is no ASCII letter, ASCII digit or gap is that of `letters_for`
pub plain_letters : (c : ℕ) → is_ascii_alphanumeric c ≡ false → is_word_gap c ≡ false → letters_for c ≡ key_letter c
plain_letters c plain gap =
    sym
    (ap (λ b. cond b (c ∷ []) (cond (is_word_gap c) (32 ∷ []) (letters_for c))) plain ∙ ap (λ b. cond b (32 ∷ []) (letters_for c)) gap)

-- a word that fails a test is left out
pub filter_skipped : {A B : Type 0} (p : B → Bool) (f : A → B) (xs : List A) (x : A) → p (f x) ≡ false
    → filter p (map f (xs ++ (x ∷ []))) ≡ filter p (map f xs)
filter_skipped p f [] x fails = ap (λ b. cond b (f x ∷ []) []) fails
filter_skipped p f (y ∷ xs) x fails =
    ap (λ l. cond (p (f y)) (f y ∷ l) l) (filter_skipped p f xs x fails)
