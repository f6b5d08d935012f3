-- Meaning: words of public contracts.
-- Lines and columns of byte offsets in a text, as many compilers and editors count them: from 1, columns in characters.
use Rattle.std.specs.Prelude.{ℕ, ◌+◌, ◌==◌, Bool, not, List, take}
use Rattle.std.specs.Int.{is_in_range}
use Rattle.std.specs.List.{after_last, count_by}
use Rattle.bib_text.specs.Characters as char
use Rattle.bib_source.specs.declared.positions.Position.{Position}

-- whether a byte is a line feed
abbrev pub is_line_feed : ℕ → Bool
is_line_feed byte = byte == char.line_feed

-- whether `byte` of a UTF-8 text begins a character: the other bytes of a character are from 80 to BF
abbrev pub begins_character : ℕ → Bool
begins_character byte = not (is_in_range 0x80 0xBF byte)

-- The position after `text`. Its line is one more than the number of line feeds. Its column is one more than the number of
-- bytes that begin a character (`begins_character`) after the last line feed, or in all of `text` if there is none.
abbrev pub position_after : List ℕ → Position
position_after text = record {
  line = count_by is_line_feed text + 1;
  column = count_by begins_character (after_last is_line_feed text) + 1;
}

-- the position of the byte offset `at` in `text`: the position after the first `at` bytes, or after all if there are fewer
abbrev pub position_at : List ℕ → ℕ → Position
position_at text at = position_after (take at text)
