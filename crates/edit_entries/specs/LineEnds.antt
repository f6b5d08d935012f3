-- Meaning: words of public contracts.
-- Texts that get the carriage returns of a file's line ends.
use Rattle.std.specs.Prelude.{◌&&◌, ◌==◌, ℕ, List, [], ◌∷◌, ◌++◌, bytes_eq, codes, encode_utf8_all, if◌then◌else◌, not}
use Rattle.std.specs.Str.{chars}
use Rattle.bib_text.specs.Characters as char
pub use Rattle.bib_queries.specs.LineEnds.{line_end_of}

-- a character after another one, with a carriage return before it if it is a line feed and has none
abbrev pub with_return : ℕ → ℕ → List ℕ
with_return before c = if c == char.line_feed && not (before == char.carriage_return) then char.carriage_return ∷ c ∷ [] else c ∷ []

-- the characters of a list, each as in `with_return`; the first one is after `before`
abbrev pub with_returns : ℕ → List ℕ → List ℕ
with_returns before [] = []
with_returns before (c ∷ cs) = with_return before c ++ with_returns c cs

-- a text with the carriage returns of a file's line ends. If the file's line end is a carriage return and a line feed, each line feed
-- has a carriage return before it. Otherwise the text is kept
abbrev pub with_line_ends_of : List ℕ → List ℕ → List ℕ
with_line_ends_of file text =
    if bytes_eq (line_end_of file) (codes "\n") then text else encode_utf8_all (with_returns char.space (chars text))
