-- ASCII texts without white space and lowercase letters: trimming and upper case change nothing.
use Rattle.std.proofs.Common.{◌≡◌, ℕ, ◌<◌, Bool, true, false, ◌||◌, ◌==◌, List, [], ◌∷◌, refl, ap, arith}
use Rattle.std.specs.List.{list_all, All}
use Rattle.std.specs.Char.{is_whitespace, to_ascii_uppercase}
use Rattle.std.specs.Str.{trim_start, trim_end, str_to_ascii_uppercase, skip_leading_whitespace, drop_trailing_whitespace, IsAscii}
use Rattle.std.proofs.lemmas.Str.{chars-IsAscii, encodes-IsAscii}
use Rattle.std.proofs.lemmas.Str.Ascii.{IsAscii-from_all}
use Rattle.std.proofs.lemmas.List.Elements.{All-nil, All-cons}
use Rattle.std.proofs.lemmas.Bool.Decides.{nat_tests}
use Rattle.std.proofs.lemmas.Bool.{and_parts}
use Rattle.bib_dates.specs.Parts.{lies}

-- an ASCII byte from `!` to the backtick, or a tilde: a sign, a digit or an uppercase letter
abbrev pub is_plain : ℕ → Bool
is_plain b = lies 33 96 b || b == 126

-- whether a text consists of such bytes
abbrev pub plain : List ℕ → Bool
plain text = list_all is_plain text

plain_low : (b : ℕ) → is_plain b ≡ true → b < 128
plain_low b h = grind (arith, nat_tests)

plain_dark : (b : ℕ) → is_plain b ≡ true → is_whitespace b ≡ false
plain_dark b h = grind (arith, nat_tests)

plain_capital : (b : ℕ) → is_plain b ≡ true → to_ascii_uppercase b ≡ b
plain_capital b h = grind (arith, nat_tests)

all_low : (text : List ℕ) → plain text ≡ true → All (λ b. b < 128) text
all_low [] h = All-nil (λ b. b < 128)
all_low (b ∷ text) h = let p = and_parts _ _ h in All-cons (λ c. c < 128) b text (plain_low b p.0) (all_low text p.1)

ascii : (text : List ℕ) → plain text ≡ true → IsAscii text
ascii text h = IsAscii-from_all text (all_low text h)

skip_none : (text : List ℕ) → plain text ≡ true → skip_leading_whitespace text ≡ text
skip_none [] h = refl
skip_none (b ∷ text) h = let p = and_parts _ _ h in rw (plain_dark b p.0) refl

drop_none : (text : List ℕ) → plain text ≡ true → drop_trailing_whitespace text ≡ text
drop_none [] h = refl
drop_none (b ∷ text) h = let p = and_parts _ _ h in rw (plain_dark b p.0) (ap (λ t. b ∷ t) (drop_none text p.1))

-- trimming the start of a plain text leaves it unchanged
pub trim_start-plain : (text : List ℕ) → plain text ≡ true → trim_start text ≡ text
unfolding trim_start
trim_start-plain text h = rw (chars-IsAscii text (ascii text h), skip_none text h) (encodes-IsAscii text (ascii text h))

-- trimming the end of a plain text leaves it unchanged
pub trim_end-plain : (text : List ℕ) → plain text ≡ true → trim_end text ≡ text
unfolding trim_end
trim_end-plain text h = rw (chars-IsAscii text (ascii text h), drop_none text h) (encodes-IsAscii text (ascii text h))

-- putting a plain text in upper case leaves it unchanged
pub capitals-plain : (text : List ℕ) → plain text ≡ true → str_to_ascii_uppercase text ≡ text
capitals-plain [] h = refl
capitals-plain (b ∷ text) h = let p = and_parts _ _ h in rw (plain_capital b p.0) (ap (λ t. b ∷ t) (capitals-plain text p.1))
