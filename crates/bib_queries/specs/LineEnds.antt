-- Meaning: words of public contracts.
-- The line end of a text.
use Rattle.std.specs.Prelude.{◌&&◌, ℕ, List, codes, cond, length, nat_lt}
use Rattle.std.specs.List.{before_first, ends_with, position_or_len}
use Rattle.bib_text.specs.Characters as char
use lib.Dec.{eqb}

-- the line end of a text: a carriage return and a line feed if its first line ends so, otherwise a line feed
abbrev pub line_end_of : List ℕ → List ℕ
line_end_of text =
    cond
    (nat_lt (position_or_len (λ b. eqb b char.line_feed) text) (length text)
    && ends_with eqb (before_first (λ b. eqb b char.line_feed) text) (codes "\r")) (codes "\r\n") (codes "\n")
