-- Meaning: words of public contracts.
-- The preambles in braces that can't be parsed. The file grammar reads one text in quotes; BibTeX also reads `#`, braces and
-- abbreviations in a preamble.
use Rattle.std.specs.Prelude.{ℕ, ◌==◌, Bool, false, if◌then◌else◌, List, [], ◌++◌, codes, length, nat_lt, slice_range}
use Rattle.std.specs.List.{before_first, list_any, position_or_len}
use Rattle.std.specs.Str.{trim_end}
use Rattle.bib_text.specs.Characters as char
use Rattle.bib_syntax.specs.Grammar.{is_word}
use Rattle.bib_syntax.specs.declared.raw.recovery.SkippedBlock.{SkippedBlock}

-- the source text of a skipped block, without the white space at its end
abbrev pub skipped_source : List ℕ → SkippedBlock → List ℕ
skipped_source text block = trim_end (slice_range text block.span.start block.span.end)

-- whether a block begins with `@preamble` in any ASCII case, white space if any, and an opening brace
abbrev pub is_preamble : List ℕ → Bool
is_preamble source =
    if nat_lt (position_or_len (λ b. b == char.open_brace) source) (length source)
    then is_word (trim_end (before_first (λ b. b == char.open_brace) source)) (codes "@preamble") else false

-- whether a skipped block is a preamble in braces
abbrev pub is_unread_preamble : List ℕ → SkippedBlock → Bool
is_unread_preamble text block = is_preamble (skipped_source text block)

-- whether one of these skipped blocks is a preamble in braces
abbrev pub has_unread_preamble : List ℕ → List SkippedBlock → Bool
has_unread_preamble text skipped = list_any (is_unread_preamble text) skipped

-- the source text of a skipped block and a line end, if it is a preamble in braces
abbrev pub unread_line : List ℕ → List ℕ → SkippedBlock → List ℕ
unread_line line_end text block = if is_unread_preamble text block then skipped_source text block ++ line_end else []
