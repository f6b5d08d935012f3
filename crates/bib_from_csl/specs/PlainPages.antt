-- Meaning: words of public contracts.
-- Pages that are parsed back from their written form.
use Rattle.std.specs.Prelude.{ℕ, ◌==◌, if◌then◌else◌, List, [], ◌∷◌, ◌++◌, codes, encode_utf8}
use Rattle.std.specs.Fmt.{decimal}
use Rattle.std.specs.declared.ops.Range.{Range}
use Rattle.bib_text.specs.Characters as char
use Rattle.bib_csl.specs.Texts.{joined}

-- the pages of a range: its first and last with an en dash between them, or the one page
unfoldable pub pages_of : Range ℕ → List ℕ
pages_of range =
    if range.start == range.end then decimal range.start
    else decimal range.start ++ (encode_utf8 char.en_dash ++ decimal range.end)

-- ranges of pages after some text, with commas between them
unfoldable pub pages_after : List ℕ → List (Range ℕ) → List ℕ
pages_after before [] = before
pages_after before (range ∷ ranges) = pages_after (joined (codes ", ") before (pages_of range)) ranges
