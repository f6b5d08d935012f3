-- Meaning: words of public contracts.
-- The findings of comments in entries. A percent sign after a comma or after a value of an entry begins a comment for Biber and this
-- library. Elsewhere between the parts of an entry, it is a syntax error for this library. BibTeX has no comments in entries: it reports an
-- error at the percent sign, and skips the rest of the entry.
use Rattle.std.specs.Prelude.{ℕ, ◌+◌, ◌==◌, List, [], ◌∷◌, ◌++◌, codes, Option, None, Some, option_map}
use Rattle.std.specs.List.{flat_map, position}
use Rattle.std.specs.Option.{option_or}
use Rattle.bib_text.specs.Characters as char
use Rattle.bib_text.specs.Places.{between, place}
use Rattle.bib_syntax.specs.Reading.{EntryReading, FieldReading}
use Rattle.bib_findings.specs.EntryNames.{entry_name}
use Rattle.bib_findings.specs.Errors.{finding_at}
use Rattle.bib_findings.specs.declared.codes.Code.TheVariants.{CommentInEntry}
use Rattle.bib_findings.specs.declared.finding.Finding.{Finding}

-- the byte offset of the first percent sign between two byte offsets of a text, if there is one
abbrev pub percent_between : List ℕ → ℕ → ℕ → Option ℕ
percent_between text start end =
    option_map (λ index. start + index) (position (λ b. b == char.percent) (between (place text start) (place text end)))

-- the byte offset of the first percent sign outside of these fields, from `start` up to `end`, if there is one
abbrev pub comment_outside : List ℕ → ℕ → List FieldReading → ℕ → Option ℕ
comment_outside text start [] end = percent_between text start end
comment_outside text start (f ∷ rest) end =
    option_or (percent_between text start f.name.start) (comment_outside text f.value.end rest end)

-- the byte offset of the first comment of an entry after its key, if there is one
abbrev pub first_comment : List ℕ → EntryReading → Option ℕ
first_comment text said = comment_outside text said.key.end said.fields said.end

-- the message about a comment in the entry with this key
abbrev pub comment_message : List ℕ → List ℕ
comment_message key =
    entry_name key ++ codes ": BibTeX can't read a comment in an entry, and skips the rest of the entry; move the comment before the entry"

-- the finding of an entry with this key at a byte offset, if there is one
abbrev pub comment_finding : List ℕ → Option ℕ → List Finding
comment_finding key None = []
comment_finding key (Some at) = finding_at CommentInEntry (record { start = at; end = at }) (comment_message key) ∷ []

-- the finding of an entry, at its first comment
abbrev pub comment_of : List ℕ → EntryReading → List Finding
comment_of text said = comment_finding said.key.text (first_comment text said)

-- the findings of entries of a file with this text
abbrev pub comment_findings : List ℕ → List EntryReading → List Finding
comment_findings text entries = flat_map (comment_of text) entries
