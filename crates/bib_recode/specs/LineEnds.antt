-- Meaning: words of public contracts.
-- Line ends of one kind. A line ends at a carriage return, a line feed, or both in this order, as BibTeX counts lines.
use Rattle.std.specs.Prelude.{ℕ, ◌==◌, Bool, true, false, List, [], ◌∷◌, ◌++◌, Option, None, Some, codes, encode_utf8, if◌then◌else◌}
use Rattle.std.specs.Str.{str_eq_ignore_ascii_case}
use Rattle.bib_source.specs.Encoding.{byte_order_mark}
use Rattle.bib_text.specs.Characters as char
use Rattle.bib_recode.specs.declared.line_ends.LineEnds.{LineEnds}
use Rattle.bib_recode.specs.declared.line_ends.LineEnds.TheVariants.{Lf, CrLf}

-- the kind of line ends with this name, in any ASCII case, or `None`
abbrev pub line_ends_named : List ℕ → Option LineEnds
line_ends_named name =
    if str_eq_ignore_ascii_case name (codes "lf") then Some Lf else if str_eq_ignore_ascii_case name (codes "crlf") then Some CrLf else None

-- a line end of this kind
abbrev pub end_of_line : LineEnds → List ℕ
end_of_line Lf = char.line_feed ∷ []
end_of_line CrLf = char.carriage_return ∷ char.line_feed ∷ []

-- a character in UTF-8, or the line end if a line ends at it. The flag says whether the character before it is a carriage
-- return. For a line feed after a carriage return it is nothing, because that line has ended.
abbrev pub ended_bytes : LineEnds → Bool → ℕ → List ℕ
ended_bytes ends is_after_return c =
    if c == char.carriage_return then end_of_line ends
    else if c == char.line_feed then (if is_after_return then [] else end_of_line ends)
    else encode_utf8 c

-- characters in UTF-8 with line ends of one kind; the flag says whether the character before them is a carriage return
abbrev pub ended_after : LineEnds → Bool → List ℕ → List ℕ
ended_after ends is_after_return [] = []
ended_after ends is_after_return (c ∷ cs) = ended_bytes ends is_after_return c ++ ended_after ends (c == char.carriage_return) cs

-- the characters of a text in UTF-8, with line ends of one kind
abbrev pub with_line_ends : LineEnds → List ℕ → List ℕ
with_line_ends ends cs = ended_after ends false cs

-- a byte order mark if the flag is true, otherwise nothing
abbrev pub mark_if : Bool → List ℕ
mark_if true = byte_order_mark
mark_if false = []
