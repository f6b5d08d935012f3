-- The steps of parsing a range.
use Rattle.std.proofs.Common.{◌≡◌, ℕ, ◌<◌, ◌≤◌, ◌^◌, Bool, true, false, cond, List, [], ◌∷◌, ◌++◌, length, take, drop, map, get_or, refl, sym, ap, ◌∙◌, arith, Option, Some, None, Result, Ok, Err, ◌+◌}
use Rattle.std.specs.Prelude.{encode_utf8_all, MatchResult, ◌==◌}
use Rattle.std.specs.Char.{is_ascii_digit}
use Rattle.std.specs.Str.{chars, IsUtf8, all_ascii_digits}
use Rattle.std.specs.Str.Parse.{digits_value, ParsesUnsigned}
use Rattle.std.proofs.lemmas.Bool.{cond-true, cond-false, and_from, false_from_ne_true}
use Rattle.std.proofs.lemmas.Bool.Decides.{nat_tests}
use Rattle.std.specs.Option.{option_map}
use Rattle.bib_chunks.specs.Formatted.{formatted_chars}
use Rattle.bib_chunks.specs.Values.{Value}
use Rattle.std.proofs.lemmas.List.{map_more, drop_more, take-append-drop, take_all, map-append}
use Rattle.std.proofs.lemmas.Str.{chars_from_encodes}
use Rattle.std.proofs.lemmas.Str.Parse.{parse_digits}
use Rattle.bib_chunks.proofs.StyledFacts.{no_characters}
use Rattle.bib_values.proofs.NumberFacts.{digits_model}
use Rattle.bib_values.specs.Ranges.{is_small, leading_number, is_dash, after_dash, ends_at, up_to, goes_on_with, with_first, all_of}
use Rattle.bib_text.specs.Runs.{leading_run, rest_after}
use Rattle.bib_text.proofs.BytesFacts.{chars_empty}

-- the digits at the start of a text are digits
prefix_digits : (cs : List ℕ) → all_ascii_digits (leading_run is_ascii_digit cs) ≡ true
prefix_digits [] = refl
prefix_digits (c ∷ cs) = here (is_ascii_digit c) c (leading_run is_ascii_digit cs) refl (prefix_digits cs)
  where
    here : (b : Bool) (c : ℕ) (ds : List ℕ) → is_ascii_digit c ≡ b → all_ascii_digits ds ≡ true
        → all_ascii_digits (cond b (c ∷ ds) []) ≡ true
    here true c ds is more = and_from _ _ is more
    here false c ds is more = refl

-- digits of a number that fits in 32 bits pass the test
pub small_yes : (ds : List ℕ) → (0 < length ds) × (digits_value 10 ds < 2 ^ 32) → is_small ds ≡ true
small_yes ds holds =
    let some : 0 < length ds = holds.0 in
    let fits : digits_value 10 ds < 2 ^ 32 = holds.1 in
    grind (arith, nat_tests)

-- digits of no such number fail the test
small_no : (ds : List ℕ) → ((0 < length ds) × (digits_value 10 ds < 2 ^ 32) → ⊥) → is_small ds ≡ false
small_no ds fails = false_from_ne_true (is_small ds) (λ holds.
    let some : 0 < length ds = grind (arith, nat_tests) in
    let fits : digits_value 10 ds < 2 ^ 32 = grind (arith, nat_tests) in
    fails (some, fits))

-- the result of `parse` for the digits at the start of a text is the leading number of the text
pub number_parsed : {E : Type 0} (cs ds rest : List ℕ) (r : Result ℕ E) → ds ≡ leading_run is_ascii_digit cs
    → rest ≡ rest_after is_ascii_digit cs → ParsesUnsigned 32 10 ds r
    → MatchResult r (λ n. leading_number cs ≡ Some (n, rest)) (λ e. leading_number cs ≡ None)
unfolding leading_number
number_parsed {E} cs ds rest (Ok n) is left parses =
    let reported = parse_digits digits_model {E = E} 32 ds (Ok n) parses (ap all_ascii_digits is ∙ prefix_digits cs) in
    cond-true (is_small (leading_run is_ascii_digit cs)) _ _ (ap is_small (sym is) ∙ small_yes ds reported.0)
    ∙ ap (λ xs. Some (digits_value 10 xs, rest_after is_ascii_digit cs)) (sym is)
    ∙ ap (λ m. Some (m, rest_after is_ascii_digit cs)) (sym reported.1) ∙ ap (λ xs. Some (n, xs)) (sym left)
number_parsed {E} cs ds rest (Err e) is left parses =
    let reported = parse_digits digits_model {E = E} 32 ds (Err e) parses (ap all_ascii_digits is ∙ prefix_digits cs) in
    cond-false (is_small (leading_run is_ascii_digit cs)) _ _ (ap is_small (sym is) ∙ small_no ds reported)

-- if the first character is a dash, the text after the dash and any `-` after that is found
pub dashed : (cs rest : List ℕ) (c : ℕ) (left : List ℕ) → cs ≡ c ∷ rest → left ≡ rest_after (λ d. d == 45) rest
    → is_dash c ≡ true → after_dash cs ≡ Some left
unfolding after_dash
dashed cs rest c left is leaves dash = ap after_dash is ∙ cond-true (is_dash c) _ _ dash ∙ ap (λ x. Some x) (sym leaves)

-- there is no text after a dash if the first character is not one
pub undashed : (cs rest : List ℕ) (c : ℕ) → cs ≡ c ∷ rest → is_dash c ≡ false → after_dash cs ≡ None
unfolding after_dash
undashed cs rest c is dash = ap after_dash is ∙ cond-false (is_dash c) _ _ dash

-- there is no text after a dash in an empty text
pub undashed_end : (cs : List ℕ) → cs ≡ [] → after_dash cs ≡ None
unfolding after_dash
undashed_end cs is = ap after_dash is

-- a non-empty UTF-8 text has characters
pub chars_some : (bs : List ℕ) → IsUtf8 bs → 0 < length bs → (c : ℕ) × (cs : List ℕ) × (chars bs ≡ c ∷ cs)
chars_some bs utf8 some = here (chars bs) refl
  where
    here : (xs : List ℕ) → chars bs ≡ xs → (c : ℕ) × (cs : List ℕ) × (chars bs ≡ c ∷ cs)
    here [] is = let none : bs ≡ [] = no_characters bs utf8 is in absurd (omega (arith, ap length none))
    here (c ∷ cs) is = (c, cs, is)

-- a range whose end is at the end of the text
pub ended : (a b : ℕ) (rest : List ℕ) (found : Option (ℕ × List ℕ)) → found ≡ Some (b, chars rest) → length rest ≡ 0
    → Some (record { start = a; end = b }) ≡ ends_at a found
ended a b rest found is none = sym (ap (ends_at a) is ∙ ap (λ cs. ends_at a (Some (b, cs))) (chars_empty rest none))

-- there is no range if UTF-8 text comes after its end
pub unended : (a b : ℕ) (rest : List ℕ) (found : Option (ℕ × List ℕ)) → found ≡ Some (b, chars rest) → IsUtf8 rest
    → 0 < length rest → None ≡ ends_at a found
unended a b rest found is utf8 some =
    let more = chars_some rest utf8 some in
    sym (ap (ends_at a) is ∙ ap (λ cs. ends_at a (Some (b, cs))) more.2)

-- without text after its start, a range is one number
pub lone : (a : ℕ) (text : List ℕ) → length text ≡ 0 → Some (record { start = a; end = a }) ≡ goes_on_with a (chars text)
lone a text none = sym (ap (goes_on_with a) (chars_empty text none))

-- with UTF-8 text after its start, a range is determined by the text after the dash, if there is a dash
pub parted : (a : ℕ) (text : List ℕ) (dash : Option (List ℕ)) → IsUtf8 text → 0 < length text
    → after_dash (chars text) ≡ dash → up_to a dash ≡ goes_on_with a (chars text)
parted a text dash utf8 some is =
    let more = chars_some text utf8 some in
    ap (up_to a) (sym is ∙ ap after_dash more.2) ∙ sym (ap (goes_on_with a) more.2)

-- appending a value and putting one before the others commute
joined_first : {A : Type 0} (a r : A) (found : Option (List A))
    → with_first (Some a) (option_map (λ rs. rs ++ r ∷ []) found)
    ≡ option_map (λ rs. rs ++ r ∷ []) (with_first (Some a) found)
joined_first a r None = refl
joined_first a r (Some rs) = refl

-- with one value more at the end, all values are those before and this one
all_push : {A : Type 0} (xs : List (Option A)) (r : A) → all_of (xs ++ Some r ∷ []) ≡ option_map (λ rs. rs ++ r ∷ []) (all_of xs)
all_push [] r = refl
all_push (Some a ∷ xs) r = ap (with_first (Some a)) (all_push xs r) ∙ joined_first a r (all_of xs)
all_push (None ∷ xs) r = refl

-- if one value is missing, there are not all values
all_without : {A : Type 0} (xs ys : List (Option A)) → all_of (xs ++ None ∷ ys) ≡ None
all_without [] ys = refl
all_without (Some a ∷ xs) ys = ap (with_first (Some a)) (all_without xs ys)
all_without (None ∷ xs) ys = refl

-- if all values so far and the next one exist, they are all values up to the next one
pub all_step : {X A : Type 0} (f : X → Option A) (xs : List X) (i : ℕ) (x : X) (rs : List A) (r : A) → i < length xs
    → x ≡ get_or xs i x → all_of (map f (take i xs)) ≡ Some rs → f x ≡ Some r
    → all_of (map f (take (i + 1) xs)) ≡ Some (rs ++ r ∷ [])
all_step f xs i x rs r within is before found =
    let more : map f (take (i + 1) xs) ≡ map f (take i xs) ++ f (get_or xs i x) ∷ [] = map_more f xs i x within in
    ap all_of (more ∙ ap (λ y. map f (take i xs) ++ y ∷ []) (ap f (sym is) ∙ found)) ∙ all_push (map f (take i xs)) r
    ∙ ap (option_map (λ ys. ys ++ r ∷ [])) before

-- if a value does not exist, not all do
pub all_stop : {X A : Type 0} (f : X → Option A) (xs : List X) (i : ℕ) (x : X) → i < length xs → x ≡ get_or xs i x
    → f x ≡ None → all_of (map f xs) ≡ None
all_stop f xs i x within is none =
    let split : xs ≡ take i xs ++ x ∷ drop (i + 1) xs =
    sym (take-append-drop i xs)
    ∙ ap (λ ys. take i xs ++ ys) (drop_more xs i x within ∙ ap (λ y. y ∷ drop (i + 1) xs) (sym is)) in
    ap (λ ys. all_of (map f ys)) split ∙ ap all_of (map-append f (take i xs) (x ∷ drop (i + 1) xs))
    ∙ ap (λ y. all_of (map f (take i xs) ++ y ∷ map f (drop (i + 1) xs))) none
    ∙ all_without (map f (take i xs)) (map f (drop (i + 1) xs))

-- at the end of the list, the values so far are all values
pub all_done : {X A : Type 0} (f : X → Option A) (xs : List X) (i : ℕ) (rs : List A) → length xs ≤ i
    → all_of (map f (take i xs)) ≡ Some rs → Some rs ≡ all_of (map f xs)
all_done f xs i rs end before = sym before ∙ ap (λ ys. all_of (map f ys)) (take_all i xs end)

-- if the bytes of a part's formatted text are UTF-8, their characters are those of the formatted text
pub part_chars : (part : Value) (bs : List ℕ) → IsUtf8 bs → bs ≡ encode_utf8_all (formatted_chars part) → chars bs ≡ formatted_chars part
part_chars part bs utf8 is = sym (chars_from_encodes (formatted_chars part) bs utf8 (sym is))
