-- Machinery: words of private contracts.
-- Texts that are copied as they are.
use Rattle.std.specs.Prelude.{ℕ, Bool, not, ◌&&◌, ◌||◌, ◌==◌}
use Rattle.bib_text.specs.Characters as char

-- whether a byte is neither a backslash nor a brace nor a tilde
abbrev pub is_unmarked : ℕ → Bool
is_unmarked byte =
    not (byte == char.backslash) && (not (byte == char.open_brace) && (not (byte == char.close_brace) && not (byte == char.tilde)))

-- whether a byte is neither a line feed nor a carriage return
abbrev pub is_in_line : ℕ → Bool
is_in_line byte = not (byte == char.line_feed || byte == char.carriage_return)
