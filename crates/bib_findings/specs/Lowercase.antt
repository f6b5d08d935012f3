-- Machinery: words of private contracts.
-- Characters whose lowercase form depends on the characters around them.
use Rattle.std.specs.Prelude.{ℕ, Bool, ◌==◌}

-- whether a character is a capital sigma: its lowercase form is another one at the end of a word
abbrev pub is_capital_sigma : ℕ → Bool
is_capital_sigma c = c == 0x3A3
