-- Meaning: words of public contracts.
-- The findings of a file's bytes: that they aren't UTF-8, and that they contain an escape sequence of ISO 2022.
use Rattle.std.specs.Prelude.{ℕ, Bool, true, false, not, ◌==◌, ◌&&◌, ◌||◌, List, [], ◌∷◌, ◌++◌, Option, Some, None, codes, take, if◌then◌else◌}
use Rattle.std.specs.Char.{is_ascii}
use Rattle.std.specs.List.{list_all, list_any}
use Rattle.memchr.specs.Find.{first_of, matches}
use Rattle.bib_findings.specs.declared.codes.Code.TheVariants.{EscapeSequence, UnreadBytes}
use Rattle.bib_findings.specs.declared.finding.Finding.{Finding}

-- whether Windows-1252 has no character for a byte, by Microsoft's table of code page 1252
abbrev pub is_unassigned : ℕ → Bool
is_unassigned b = b == 0x81 || b == 0x8D || b == 0x8F || b == 0x90 || b == 0x9D

-- whether bytes begin with four that aren't ASCII
abbrev pub begins_beyond_ascii : List ℕ → Bool
begins_beyond_ascii (a ∷ b ∷ c ∷ d ∷ _) = not (is_ascii a) && not (is_ascii b) && not (is_ascii c) && not (is_ascii d)
begins_beyond_ascii _ = false

-- whether four of these bytes in a row aren't ASCII, as in words of Cyrillic or Greek letters
abbrev pub has_run_beyond_ascii : List ℕ → Bool
has_run_beyond_ascii [] = false
has_run_beyond_ascii (b ∷ rest) = begins_beyond_ascii (b ∷ rest) || has_run_beyond_ascii rest

-- whether a file is unlikely to be in Windows-1252, if its first byte that isn't UTF-8 is at this offset. If other characters than those of
-- ASCII come before it, the file is rather UTF-8 with a few other bytes.
abbrev pub is_unlikely_windows : List ℕ → ℕ → Bool
is_unlikely_windows bytes at = list_all is_ascii (take at bytes) && (list_any is_unassigned bytes || has_run_beyond_ascii bytes)

-- the message for a file whose byte at this offset is the first that isn't UTF-8
abbrev pub unread_message : List ℕ → ℕ → List ℕ
unread_message bytes at =
    if is_unlikely_windows bytes at
    then codes "not UTF-8 from here on; the file is read as Windows-1252, but is unlikely to be in it"
    else codes "not UTF-8 from here on, so the file is read as Windows-1252"

-- the finding that the byte at this offset is the first that isn't UTF-8
abbrev pub unread_finding : List ℕ → ℕ → Finding
unread_finding bytes at = record {
  code = UnreadBytes;
  span = record { start = at; end = at };
  message = unread_message bytes at;
}

-- the finding that the byte at this offset isn't UTF-8, or no finding for `None`
abbrev pub unread_findings : List ℕ → Option ℕ → List Finding
unread_findings bytes None = []
unread_findings bytes (Some at) = unread_finding bytes at ∷ []

-- the bytes that begin an escape sequence by which ISO 2022 selects characters of several bytes: ESC and a dollar sign
abbrev pub escape_bytes : List ℕ
escape_bytes = 0x1B ∷ codes "$"

-- the finding of an escape sequence at this offset
abbrev pub escape_finding : ℕ → Finding
escape_finding at = record {
  code = EscapeSequence;
  span = record { start = at; end = at };
  message = codes "an escape sequence, as in ISO-2022-JP; the characters after it aren't decoded";
}

-- the finding of an escape sequence at this offset, or no finding for `None`
abbrev pub escape_findings_at : Option ℕ → List Finding
escape_findings_at None = []
escape_findings_at (Some at) = escape_finding at ∷ []

-- the finding of the first escape sequence, if there is one
abbrev pub escape_findings : List ℕ → List Finding
escape_findings bytes = escape_findings_at (first_of (matches bytes escape_bytes 0))

-- the findings of a file's bytes; `invalid` is the offset of the first byte that isn't UTF-8
abbrev pub byte_findings : List ℕ → Option ℕ → List Finding
byte_findings bytes invalid = unread_findings bytes invalid ++ escape_findings bytes
