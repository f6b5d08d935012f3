-- Facts about the bytes of kept names.
use Rattle.std.proofs.Common.{◌≡◌, ℕ, ◌<◌, Bool, true, false, List, [], ◌∷◌, length, get_or, refl, ap, ◌∙◌, arith, suc, zero, ⊎_elim, take, cond}
use Rattle.std.specs.Prelude.{not, ◌&&◌, ◌||◌, ◌==◌, encode_utf8_all}
use Rattle.std.specs.List.{list_all, list_any, range_with_len}
use Rattle.std.specs.Char.{is_whitespace}
use Rattle.unicode.specs.Binary.{is_uppercase, is_lowercase}
use Rattle.ucd_derived.specs.UppercaseRanges.{uppercase_ranges}
use Rattle.ucd_derived.specs.LowercaseRanges.{lowercase_ranges}
use Rattle.std.specs.Str.{IsAscii, trim_start, trim_end, skip_leading_whitespace, drop_trailing_whitespace}
use Rattle.bib_chunks.specs.Formatted.{ends_in_space, is_unbroken}
use Rattle.std.proofs.lemmas.Bool.{and_parts, and_from, cases_Bool, both_ways, not-true, ne_eqb}
use Rattle.ucd_table.specs.Rows.{in_ranges}
use Rattle.std.proofs.lemmas.List.Folds.{list_all_at}
use Rattle.std.proofs.lemmas.List.FromFn.{get_or-range_with_len, length-range_with_len}
use Rattle.std.proofs.lemmas.Bool.Decides.{nat_tests}
use Rattle.std.proofs.lemmas.Str.{chars-IsAscii, encodes-IsAscii}
use Rattle.bib_people.specs.Kept.{is_capital_letter, is_small_letter, is_name_byte}

-- a test that passes for the list of all ASCII bytes passes for each of them
pub ascii_fact : (test : ℕ → Bool) → list_all test (range_with_len 0 128) ≡ true → (b : ℕ) → b < 128 → test b ≡ true
ascii_fact test all b below =
    let here : get_or (range_with_len 0 128) b 0 ≡ b = get_or-range_with_len 0 128 b 0 below ∙ omega arith in
    ⊎_elim (λ passes. passes)
    (λ fails.
    absurd
    (both_ways (list_all test (range_with_len 0 128))
    (list_all_at test (range_with_len 0 128) b 0 (omega (arith, length-range_with_len 0 128))
    (ap test here ∙ fails)) all))
    (cases_Bool (test b))

-- if `a` implies `b` and `a` is true, `b` is true
pub implied : (a b : Bool) → (not a || b) ≡ true → a ≡ true → b ≡ true
implied true b both is = both
implied false b both is = absurd (both_ways false refl is)

-- a byte of a name is ASCII
pub name_small : (b : ℕ) → is_name_byte b ≡ true → b < 128
name_small b name = grind (arith, nat_tests)

-- an ASCII uppercase letter is ASCII
pub capital_small : (b : ℕ) → is_capital_letter b ≡ true → b < 128
capital_small b name = grind (arith, nat_tests)

-- an ASCII lowercase letter is ASCII
pub letter_small : (b : ℕ) → is_small_letter b ≡ true → b < 128
letter_small b name = grind (arith, nat_tests)

-- a byte that is neither white space, a comma, an equals sign nor a line break
abbrev pub is_plain : ℕ → Bool
is_plain b = not (is_whitespace b) && (not (b == 44) && (not (b == 61) && is_unbroken b))

plain_table : list_all (λ b. not (is_name_byte b) || is_plain b) (range_with_len 0 128) ≡ true
plain_table = refl

-- a byte of a name is plain
pub name_plain : (b : ℕ) → is_name_byte b ≡ true → is_plain b ≡ true
name_plain b name =
    implied (is_name_byte b) (is_plain b)
    (ascii_fact (λ x. not (is_name_byte x) || is_plain x) plain_table b (name_small b name)) name

capital_table : list_all (λ b. not (is_capital_letter b) || not (is_lowercase b)) (range_with_len 0 128) ≡ true
unfolding is_lowercase in_ranges lowercase_ranges
capital_table = refl

-- an ASCII uppercase letter is not in lower case
pub capital_not_low : (b : ℕ) → is_capital_letter b ≡ true → is_lowercase b ≡ false
capital_not_low b capital =
    not-true (is_lowercase b)
    (implied (is_capital_letter b) (not (is_lowercase b))
    (ascii_fact (λ x. not (is_capital_letter x) || not (is_lowercase x)) capital_table b
    (capital_small b capital)) capital)

small_table : list_all (λ b. not (is_small_letter b) || (is_lowercase b && not (is_uppercase b))) (range_with_len 0 128) ≡ true
unfolding is_lowercase is_uppercase in_ranges lowercase_ranges uppercase_ranges
small_table = refl

-- an ASCII lowercase letter is in lower case, and not in upper case
pub small_low : (b : ℕ) → is_small_letter b ≡ true → (is_lowercase b && not (is_uppercase b)) ≡ true
small_low b small =
    implied (is_small_letter b) (is_lowercase b && not (is_uppercase b))
    (ascii_fact (λ x. not (is_small_letter x) || (is_lowercase x && not (is_uppercase x))) small_table b
    (letter_small b small)) small

-- a byte of a written name
abbrev pub is_line_byte : ℕ → Bool
is_line_byte b = is_name_byte b || (b == 32 || b == 44)

-- a byte of a written name is ASCII
pub line_small : (b : ℕ) → is_line_byte b ≡ true → b < 128
line_small b line = grind (arith, nat_tests)

-- a byte that is neither an equals sign nor a line break
abbrev pub is_open : ℕ → Bool
is_open b = not (b == 61) && is_unbroken b

line_table : list_all (λ b. not (is_line_byte b) || is_open b) (range_with_len 0 128) ≡ true
line_table = refl

-- a byte of a written name is neither an equals sign nor a line break
pub line_open : (b : ℕ) → is_line_byte b ≡ true → is_open b ≡ true
line_open b line =
    implied (is_line_byte b) (is_open b)
    (ascii_fact (λ x. not (is_line_byte x) || is_open x) line_table b (line_small b line)) line

-- a byte of a name is a byte of a written name
pub name_line : (b : ℕ) → is_name_byte b ≡ true → is_line_byte b ≡ true
name_line b name = rw name refl

-- ---- ASCII texts

-- bytes that pass a test for ASCII bytes only are an ASCII text
pub ascii_of : (test : ℕ → Bool) → ((b : ℕ) → test b ≡ true → b < 128) → (bs : List ℕ) → list_all test bs ≡ true → IsAscii bs
ascii_of test small [] all k = omega arith
ascii_of test small (b ∷ bs) all zero = small b (and_parts (test b) (list_all test bs) all).0
ascii_of test small (b ∷ bs) all (suc k) = ascii_of test small bs (and_parts (test b) (list_all test bs) all).1 k

-- if a test implies another one, elements that all pass the first all pass the second
pub all_follow : {A : Type 0} (one two : A → Bool) → ((b : A) → one b ≡ true → two b ≡ true) → (bs : List A)
    → list_all one bs ≡ true → list_all two bs ≡ true
all_follow one two follows [] all = refl
all_follow one two follows (b ∷ bs) all =
    let both = and_parts (one b) (list_all one bs) all in
    and_from (two b) (list_all two bs) (follows b both.0) (all_follow one two follows bs both.1)

-- bytes that all fail a test contain none that passes it
pub none_of : (test : ℕ → Bool) (bs : List ℕ) → list_all (λ b. not (test b)) bs ≡ true → list_any test bs ≡ false
none_of test [] all = refl
none_of test (b ∷ bs) all =
    let both = and_parts (not (test b)) (list_all (λ x. not (test x)) bs) all in
    let fails = not-true (test b) both.0 in
    rw fails (none_of test bs both.1)

-- ---- white space at the ends

cond_second : {A : Type 0} (a b : Bool) (x y : A) → b ≡ false → cond (a && b) x y ≡ y
cond_second true true x y is = absurd (both_ways true is refl)
cond_second true false x y is = refl
cond_second false b x y is = refl

-- a text that does not begin with white space is unchanged by trimming its start
pub skip_none : (bs : List ℕ) → list_all (λ b. not (is_whitespace b)) (take 1 bs) ≡ true → skip_leading_whitespace bs ≡ bs
skip_none [] first = refl
skip_none (b ∷ bs) first = let fails = not-true (is_whitespace b) (and_parts (not (is_whitespace b)) true first).0 in rw fails refl

-- a text that does not end in white space is unchanged by trimming its end
pub drop_none : (bs : List ℕ) → ends_in_space false bs ≡ false → drop_trailing_whitespace bs ≡ bs
drop_none [] last = refl
drop_none (b ∷ []) last = rw last refl
drop_none (b ∷ c ∷ bs) last =
    let more : drop_trailing_whitespace (c ∷ bs) ≡ c ∷ bs = drop_none (c ∷ bs) last in
    let some : (length (drop_trailing_whitespace (c ∷ bs)) == 0) ≡ false =
    ap (λ l. length l == 0) more ∙ ne_eqb (suc (length bs)) 0 (λ none. omega arith) in
    cond_second (is_whitespace b) (length (drop_trailing_whitespace (c ∷ bs)) == 0) []
    (b ∷ drop_trailing_whitespace (c ∷ bs)) some ∙ ap (λ l. b ∷ l) more

-- an ASCII text without white space at its start is unchanged by `trim_start`
pub start_none : (bs : List ℕ) → IsAscii bs → skip_leading_whitespace bs ≡ bs → trim_start bs ≡ bs
unfolding trim_start
start_none bs ascii none =
    ap (λ cs. encode_utf8_all (skip_leading_whitespace cs)) (chars-IsAscii bs ascii) ∙ ap encode_utf8_all none
    ∙ encodes-IsAscii bs ascii

-- a space before an ASCII text without white space at its start is trimmed
pub start_one : (bs : List ℕ) → IsAscii (32 ∷ bs) → IsAscii bs → skip_leading_whitespace bs ≡ bs → trim_start (32 ∷ bs) ≡ bs
unfolding trim_start
start_one bs ascii more none =
    ap (λ cs. encode_utf8_all (skip_leading_whitespace cs)) (chars-IsAscii (32 ∷ bs) ascii) ∙ ap encode_utf8_all none
    ∙ encodes-IsAscii bs more

-- an ASCII text that doesn't end in white space is unchanged by `trim_end`
pub end_none : (bs : List ℕ) → IsAscii bs → ends_in_space false bs ≡ false → trim_end bs ≡ bs
unfolding trim_end
end_none bs ascii last =
    ap (λ cs. encode_utf8_all (drop_trailing_whitespace cs)) (chars-IsAscii bs ascii)
    ∙ ap encode_utf8_all (drop_none bs last) ∙ encodes-IsAscii bs ascii
