-- Meaning: words of public contracts.
-- Braces as BibTeX, Biber and bibtool count them: a brace after a backslash counts, too.
use Rattle.std.specs.Prelude.{◌≡◌, ◌≤◌, ◌==◌, ◌&&◌, ℕ, zero, suc, Bool, true, not, nat_lt, List, filter, length, take}
use Rattle.bib_text.specs.Characters as char

-- the number of times that a byte occurs in a text
abbrev pub byte_count : ℕ → List ℕ → ℕ
byte_count c text = length (filter (λ b. b == c) text)

-- each closing brace of a text closes an earlier opening brace, and each opening brace is closed
pub record IsBalanced (text : List ℕ) : Type 0 where
  pub closes : (n : ℕ) → byte_count char.close_brace (take n text) ≤ byte_count char.open_brace (take n text)
  pub closed : byte_count char.open_brace text ≡ byte_count char.close_brace text

-- whether no prefix of a text, up to a length, has more closing braces than opening ones
abbrev pub closes_opened : ℕ → List ℕ → Bool
closes_opened zero text = true
closes_opened (suc n) text =
    not (nat_lt (byte_count char.open_brace (take (suc n) text)) (byte_count char.close_brace (take (suc n) text)))
    && closes_opened n text

-- whether the braces of a text are balanced, as `IsBalanced` says
abbrev pub is_balanced : List ℕ → Bool
is_balanced text =
    closes_opened (length text) text && byte_count char.open_brace text == byte_count char.close_brace text
