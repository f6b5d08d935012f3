-- Facts about digits and runs of digits.
use Rattle.std.proofs.Common.{◌≡◌, ℕ, zero, suc, ◌+◌, ◌<◌, ◌≤◌, Bool, true, false, cond, List, [], ◌∷◌, get_or, length, take, arith, refl, add-one}
use Rattle.std.specs.Prelude.{◌==◌}
use Rattle.std.specs.List.{list_all, prefix_len}
use Rattle.std.specs.Char.{is_ascii_alphabetic, is_ascii_digit, is_whitespace, digit_value, to_ascii_lowercase}
use Rattle.std.specs.Str.{IsCharBoundary, IsUtf8}
use Rattle.std.specs.Str.Parse.{AllDigits}
use Rattle.std.proofs.lemmas.Bool.{and_from}
use Rattle.std.proofs.lemmas.Bool.Decides.{nat_tests}
use Rattle.std.proofs.lemmas.List.Sums.{prefix_len-le-length, prefix_len_passes}
use Rattle.std.proofs.lemmas.Str.{IsCharBoundary-after_ascii, IsCharBoundary-start}
use Rattle.std.proofs.lemmas.Str.Parse.{digit_from_value}

-- ---- a digit

-- a digit is an ASCII byte
pub digit_small : (c : ℕ) → is_ascii_digit c ≡ true → c < 128
digit_small c digit = grind (arith, nat_tests)

-- an ASCII letter is less than 128
pub letter_small : (c : ℕ) → is_ascii_alphabetic c ≡ true → c < 128
letter_small c is = grind (arith, nat_tests)

-- a digit isn't white space
pub digit_dark : (c : ℕ) → is_ascii_digit c ≡ true → is_whitespace c ≡ false
digit_dark c digit = grind (arith, nat_tests)

-- white space is no digit
pub white_no_digit : (c : ℕ) → is_whitespace c ≡ true → is_ascii_digit c ≡ false
white_no_digit c white = grind (arith, nat_tests)

-- a digit is no hyphen
pub digit_no_hyphen : (c : ℕ) → is_ascii_digit c ≡ true → (c == 45) ≡ false
digit_no_hyphen c digit = grind (arith, nat_tests)

-- a character is a digit if and only if its lowercase form is
pub lower_digit : (c : ℕ) → is_ascii_digit (to_ascii_lowercase c) ≡ is_ascii_digit c
lower_digit c = grind (arith, nat_tests)

-- ---- runs of digits

digit_is_low : (b : ℕ) → is_ascii_digit b ≡ true → digit_value b < 10
digit_is_low b h = grind (arith, nat_tests)

one_more : (n : ℕ) → 1 + n ≡ suc n
one_more n = omega arith

run_digits-cons : (b : ℕ) (v : Bool) (bs : List ℕ) (n : ℕ) → is_ascii_digit b ≡ v → AllDigits 10 (take n bs)
    → AllDigits 10 (take (cond v (1 + n) 0) (b ∷ bs))
run_digits-cons b true bs n is all = rw (one_more n) (digit_is_low b is, all)
run_digits-cons b false bs n is all = tt

-- the run of digits at the start consists of digits
pub run_digits : (bs : List ℕ) → AllDigits 10 (take (prefix_len is_ascii_digit bs) bs)
run_digits [] = tt
run_digits (b ∷ bs) = run_digits-cons b (is_ascii_digit b) bs (prefix_len is_ascii_digit bs) refl (run_digits bs)

-- decimal digits are ASCII digits
pub all_digits : (ds : List ℕ) → AllDigits 10 ds → list_all is_ascii_digit ds ≡ true
all_digits [] all = refl
all_digits (d ∷ ds) all =
    let range = digit_from_value d all.0 in
    let here : is_ascii_digit d ≡ true = grind (arith, nat_tests) in
    and_from _ _ here (all_digits ds all.1)

-- the offset after ASCII bytes at the start of UTF-8 text is a character boundary
following_ascii : (bs : List ℕ) (n : ℕ) → IsUtf8 bs → n ≤ length bs → ((k : ℕ) → k < n → get_or bs k 0 < 128) → IsCharBoundary bs n
following_ascii bs zero u h low = IsCharBoundary-start bs u
following_ascii bs (suc m) u h low =
    let at : IsCharBoundary bs (m + 1) = IsCharBoundary-after_ascii bs m u (omega arith) (low m (omega arith)) in
    rw add-one at at

-- the offset after the leading bytes of UTF-8 text that pass a test is a character boundary, if only ASCII bytes pass it
pub after_passed : (test : ℕ → Bool) (bs : List ℕ) → IsUtf8 bs → ((b : ℕ) → test b ≡ true → b < 128)
    → IsCharBoundary bs (prefix_len test bs)
after_passed test bs u low =
    following_ascii bs (prefix_len test bs) u (prefix_len-le-length test bs)
    (λ k h. low (get_or bs k 0) (prefix_len_passes test bs k 0 h))

-- the offset after the digits at the start of UTF-8 text is a character boundary
pub after_digits : (bs : List ℕ) (n : ℕ) → IsUtf8 bs → n ≡ prefix_len is_ascii_digit bs → IsCharBoundary bs n
after_digits bs n u is = rw is (after_passed is_ascii_digit bs u digit_small)
