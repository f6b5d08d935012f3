-- Facts about runs of digits.
use Rattle.std.proofs.Common.{◌≡◌, ℕ, zero, ◌+◌, ◌-◌, ◌<◌, ◌≤◌, Bool, true, false, cond, not, min, List, [], ◌∷◌, drop, get_or, length, take, ◌==◌, arith, refl, sym, ap, ap₂, ◌∙◌, subst, Some, None, inl, inr}
use Rattle.std.specs.Prelude.{bytes_eq, codes}
use Rattle.std.specs.List.{prefix_len}
use Rattle.std.specs.Char.{is_ascii_digit}
use Rattle.std.specs.Str.{IsCharBoundary}
use Rattle.std.specs.Str.Parse.{digits_value}
use Rattle.std.proofs.lemmas.Bool.{cases_lt, eqb-true}
use Rattle.std.proofs.lemmas.Bool.Decides.{nat_tests}
use Rattle.std.proofs.lemmas.List.Sums.{prefix_len-le-length, prefix_len_stops}
use Rattle.std.proofs.lemmas.Str.{IsCharBoundary-before_ascii, IsCharBoundary-end}
use Rattle.edit_orders.specs.Years.{counted, from_digits, most, year_by_digits}

is_digit : (b : ℕ) → not (is_ascii_digit b) ≡ false → b < 128
is_digit b h = grind (arith, nat_tests)

-- the offset of the first digit is a character boundary
pub before_digits : (bs : List ℕ) (n : ℕ) → n ≡ prefix_len (λ b. not (is_ascii_digit b)) bs → IsCharBoundary bs n
before_digits bs n is =
    rw is (at (prefix_len (λ b. not (is_ascii_digit b)) bs) refl (prefix_len-le-length (λ b. not (is_ascii_digit b)) bs))
  where
    at : (m : ℕ) → m ≡ prefix_len (λ b. not (is_ascii_digit b)) bs → m ≤ length bs → IsCharBoundary bs m
    at m same small =
        elim (cases_lt m (length bs)) [
          | inl within ↦
              let stops = prefix_len_stops (λ b. not (is_ascii_digit b)) bs 0 (subst (λ k. k < length bs) same within) in
              IsCharBoundary-before_ascii bs m within
              (is_digit (get_or bs m 0) (ap (λ k. not (is_ascii_digit (get_or bs k 0))) same ∙ stops))
          | inr end ↦ let whole : length bs ≡ m = omega arith in subst (IsCharBoundary bs) whole (IsCharBoundary-end bs)
        ]

-- the year that digits write, if there are some
pub counted_some : (is_before : Bool) (ds : List ℕ) → 0 < length ds
    → counted is_before ds ≡ Some (cond is_before (most - min (digits_value 10 ds) most) (most + min (digits_value 10 ds) most))
counted_some is_before [] h = absurd (omega arith)
counted_some is_before (d ∷ ds) h = refl

-- without digits there is no year
pub counted_none : (is_before : Bool) (ds : List ℕ) → length ds ≡ 0 → counted is_before ds ≡ None
counted_none is_before [] h = refl
counted_none is_before (d ∷ ds) h = absurd (omega arith)

-- the year of a text is that of its first digits; it is counted backwards from year 0 if the text before them is a hyphen
pub year_is : (text before rest digits : List ℕ) (n : ℕ) → n ≡ prefix_len (λ b. not (is_ascii_digit b)) text → before ≡ take n text
    → rest ≡ drop n text → digits ≡ take (prefix_len is_ascii_digit rest) rest
    → year_by_digits text ≡ counted (bytes_eq before (codes "-")) digits
year_is text before rest digits n is front back run =
    let from : from_digits text ≡ rest = sym (back ∙ ap (λ k. drop k text) is) in
    ap₂ (λ b ds. counted (bytes_eq b (codes "-")) ds) (sym (front ∙ ap (λ k. take k text) is))
    (ap (λ t. take (prefix_len is_ascii_digit t) t) from ∙ sym run)

-- after only a hyphen, the number that the digits write, at most `most`, counts the years before year 0; -0 is year 0
pub year_before : (text before digits : List ℕ) (k : ℕ) → year_by_digits text ≡ counted (bytes_eq before (codes "-")) digits
    → bytes_eq before (codes "-") ≡ true → 0 < length digits → k ≡ min (digits_value 10 digits) most → Some (most - k) ≡ year_by_digits text
year_before text before digits k is hyphen some same =
    sym (is ∙ ap (λ b. counted b digits) hyphen ∙ counted_some true digits some ∙ ap (λ m. Some (most - m)) (sym same))

-- if the digits aren't after only a hyphen, the number that they write, at most `most`, counts the years from year 0
pub year_after : (text before digits : List ℕ) (k : ℕ) → year_by_digits text ≡ counted (bytes_eq before (codes "-")) digits
    → bytes_eq before (codes "-") ≡ false → 0 < length digits → k ≡ min (digits_value 10 digits) most
    → Some (most + k) ≡ year_by_digits text
year_after text before digits k is other some same =
    sym (is ∙ ap (λ b. counted b digits) other ∙ counted_some false digits some ∙ ap (λ m. Some (most + m)) (sym same))

-- a text without digits has no year
pub year_none : (text before digits : List ℕ) → year_by_digits text ≡ counted (bytes_eq before (codes "-")) digits
    → (length digits == 0) ≡ true → None ≡ year_by_digits text
year_none text before [] is empty = sym is
year_none text before (d ∷ ds) is empty =
    absurd (let zero : length (d ∷ ds) ≡ 0 = eqb-true (length (d ∷ ds)) 0 empty in omega (arith, zero))

-- if the length of a list isn't 0, it is greater than 0
pub some_left : (digits : List ℕ) → (length digits == 0) ≡ false → 0 < length digits
some_left [] h = absurd (let clash : true ≡ false = h in cc)
some_left (d ∷ ds) h = omega arith
