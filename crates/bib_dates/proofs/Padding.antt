-- The text that `{:04}` and `{:02}` write.
use Rattle.std.proofs.Common.{◌≡◌, ℕ, ◌^◌, ◌-◌, false, [], append-nil}
use Rattle.std.specs.Fmt.{decimal, padded_integral, format_spec, char_count, styled_decimal}
use Rattle.std.proofs.Math.Nat.{sub-zero}
use Rattle.bib_dates.specs.Written.{with_zeros}

padded_is : (width n : ℕ) → padded_integral (format_spec 32 0 4 width (2 ^ 64 - 1)) false [] (decimal n) ≡ with_zeros width n
unfolding padded_integral char_count
padded_is width n = simp (sub-zero, append-nil)

-- `{:02}` writes at least two digits
pub two_wide : (n : ℕ) → styled_decimal (format_spec 32 0 4 2 (2 ^ 64 - 1)) n ≡ with_zeros 2 n
two_wide n = padded_is 2 n

-- `{:04}` writes at least four digits
pub four_wide : (n : ℕ) → styled_decimal (format_spec 32 0 4 4 (2 ^ 64 - 1)) n ≡ with_zeros 4 n
four_wide n = padded_is 4 n
