-- Meaning: words of public contracts.
-- The lines of a text of RIS, each with its tag and its value.
use Rattle.std.specs.Prelude.{ℕ, Bool, true, false, ◌==◌, ◌&&◌, ◌||◌, if◌then◌else◌, List, [], ◌∷◌, ◌++◌, length, drop, codes, eqb, encode_utf8_all}
use Rattle.std.specs.Char.{is_ascii_digit, is_ascii_uppercase}
use Rattle.std.specs.List.{flat_map, list_any, slice_split, before_first, after_first, starts_with}
use Rattle.std.specs.Str.{trim}
use Rattle.bib_text.specs.Characters as char
use Rattle.bib_from_ris.specs.declared.lines.RisLine.{RisLine}

-- the byte order mark U+FEFF in UTF-8
abbrev pub mark_bytes : List ℕ
mark_bytes = encode_utf8_all (0xFEFF ∷ [])

-- a text without the byte order mark at its start
unfoldable pub text_after_mark : List ℕ → List ℕ
text_after_mark text = if starts_with eqb text mark_bytes then drop (length mark_bytes) text else text

-- the lines of a text: a line feed, a carriage return, or both end a line; between the two is an empty line, which has no effect
abbrev pub text_lines : List ℕ → List (List ℕ)
text_lines text = flat_map (slice_split (λ b. b == char.carriage_return)) (slice_split (λ b. b == char.line_feed) text)

-- whether a byte can be the first of a tag, or its second
abbrev pub is_first_of_tag : ℕ → Bool
is_first_of_tag b = is_ascii_uppercase b

abbrev pub is_second_of_tag : ℕ → Bool
is_second_of_tag b = is_ascii_uppercase b || is_ascii_digit b

-- whether a text is a tag and two spaces
abbrev pub is_spaced_tag : List ℕ → Bool
is_spaced_tag (a ∷ b ∷ c ∷ d ∷ []) = is_first_of_tag a && (is_second_of_tag b && ((c == char.space) && (d == char.space)))
is_spaced_tag other = false

-- whether a text is empty or begins with a space
abbrev pub begins_value : List ℕ → Bool
begins_value [] = true
begins_value (b ∷ rest) = b == char.space

-- the text before the first hyphen of a line
abbrev pub left_of_hyphen : List ℕ → List ℕ
left_of_hyphen line = before_first (λ b. b == char.hyphen) line

-- the text after the first hyphen of a line
abbrev pub right_of_hyphen : List ℕ → List ℕ
right_of_hyphen line = after_first (λ b. b == char.hyphen) line

-- whether a line has a tag: two characters, two spaces and a hyphen, and then a space or nothing
unfoldable pub has_tag : List ℕ → Bool
has_tag line =
    list_any (λ b. b == char.hyphen) line && (is_spaced_tag (left_of_hyphen line) && begins_value (right_of_hyphen line))

-- a line that has a tag
unfoldable pub tagged_line : List ℕ → RisLine
tagged_line line = record { tag = trim (left_of_hyphen line); value = trim (right_of_hyphen line) }

-- a value and the text that continues it, with a space between them unless one is empty
unfoldable pub joined_value : List ℕ → List ℕ → List ℕ
joined_value value more = if length more == 0 then value else if length value == 0 then more else value ++ (codes " " ++ more)

-- a line that another line without a tag continues
abbrev pub joined_line : RisLine → List ℕ → RisLine
joined_line line more = record { tag = line.tag; value = joined_value line.value (trim more) }

-- a line and the lines after it; a line without a tag continues the line before it
abbrev pub lines_after : RisLine → List (List ℕ) → List RisLine
lines_after line [] = line ∷ []
lines_after line (next ∷ rest) =
    if has_tag next then line ∷ lines_after (tagged_line next) rest else lines_after (joined_line line next) rest

-- the line before the first line of a text, without a tag and without a value
abbrev pub no_line : RisLine
no_line = record { tag = []; value = [] }

-- the lines of a text, after `no_line`, which the text before the first tag continues
unfoldable pub lines_of_ris : List ℕ → List RisLine
lines_of_ris text = lines_after no_line (text_lines (text_after_mark text))
