-- Meaning: words of public contracts.
-- The classes of characters of a bibliography file, as the Rust crate `biblatex` defines them.
use Rattle.std.specs.Prelude.{ℕ, Bool, not, ◌&&◌, ◌||◌, ◌==◌}
use Rattle.std.specs.Char.{is_whitespace, is_control}
use Rattle.bib_text.specs.Characters as char

-- whether `c` is allowed in a key: any character except the comma, the closing brace, control characters and white space
abbrev pub is_key : ℕ → Bool
is_key c = not (c == char.comma || c == char.close_brace) && not (is_control c) && not (is_whitespace c)

-- whether `c` is one of  @ { } " # ' ( ) , = % \ ~
abbrev pub is_delimiter : ℕ → Bool
is_delimiter c =
    c == char.at || c == char.open_brace || c == char.close_brace || c == char.quote || c == char.hash
    || c == char.apostrophe || c == char.open_parenthesis || c == char.close_parenthesis || c == char.comma
    || c == char.equals || c == char.percent || c == char.backslash || c == char.tilde

-- whether `c` is allowed in an identifier: any character except delimiters, control characters and white space
abbrev pub is_id_continue : ℕ → Bool
is_id_continue c = not (is_delimiter c) && not (is_control c) && not (is_whitespace c)

-- whether `c` is allowed as the first character of an identifier: allowed in one, and none of  : < - >
abbrev pub is_id_start : ℕ → Bool
is_id_start c = not (c == char.colon || c == char.less || c == char.hyphen || c == char.greater) && is_id_continue c
