-- Meaning: words of public contracts.
-- The numbers and the texts of statuses, and the statuses of errors.
use Rattle.std.specs.Prelude.{ℕ, List, ◌==◌, codes, if◌then◌else◌}
use Rattle.edit_entries.specs.declared.errors.EditError.{EditError}
use Rattle.edit_entries.specs.declared.errors.EditError.TheVariants as edit_error
use Rattle.bib_syntax.specs.declared.raw.ParseError.{ParseError}
use Rattle.bib_syntax.specs.declared.raw.ParseErrorKind.{ParseErrorKind}
use Rattle.bib_syntax.specs.declared.raw.ParseErrorKind.TheVariants as kind
use Rattle.biblatex_c.specs.declared.status.Status.{Status}
use Rattle.biblatex_c.specs.declared.status.Status.TheVariants.{Done, TooShort, NotUtf8, Refused, OutOfMemory, UnknownKey, KeyIsThere, NotAKey, NotAName, NotInBraces, DefinitionIsThere, NoFieldLeft, NotBare, UnbalancedQuotes}

-- the number of a status
abbrev pub status_number : Status → ℕ
status_number Done = 0
status_number TooShort = 1
status_number NotUtf8 = 2
status_number Refused = 3
status_number OutOfMemory = 4
status_number UnknownKey = 5
status_number KeyIsThere = 6
status_number NotAKey = 7
status_number NotAName = 8
status_number NotInBraces = 9
status_number DefinitionIsThere = 10
status_number NoFieldLeft = 11
status_number NotBare = 12
status_number UnbalancedQuotes = 13

-- the text of the status with a number, or "no status" if no status has it
abbrev pub status_text : ℕ → List ℕ
status_text number =
    if number == 0 then codes "done"
    else if number == 1 then codes "the buffer is too short"
    else if number == 2 then codes "not UTF-8"
    else if number == 3 then codes "refused"
    else if number == 4 then codes "out of memory"
    else if number == 5 then codes "no entry has the key"
    else if number == 6 then codes "an entry has the name already, as its key or in its field `ids`"
    else if number == 7 then codes "the text can't be a new key"
    else if number == 8 then codes "the text can't be the name of a field"
    else if number == 9 then codes "the value can't be written in braces"
    else if number == status_number DefinitionIsThere then codes "an abbreviation is defined already with another text"
    else if number == status_number NoFieldLeft then codes "the entry would have no field left"
    else if number == status_number NotBare
    then codes "the value is neither a number nor an abbreviation that is defined before the entry"
    else if number == status_number UnbalancedQuotes then codes "the braces of a text in quotes aren't balanced"
    else codes "no status"

-- the status of a call if parsing its text fails with an error of this kind
abbrev pub status_of_kind : ParseErrorKind → Status
status_of_kind kind.OutOfMemory = OutOfMemory
status_of_kind _ = Refused

-- the status of a call if parsing its text fails with this error
abbrev pub status_of_error : ParseError → Status
status_of_error e = status_of_kind e.kind

-- the status of a call if its edit fails with this error
abbrev pub status_of_edit : EditError → Status
status_of_edit edit_error.UnknownKey = UnknownKey
status_of_edit edit_error.KeyIsThere = KeyIsThere
status_of_edit edit_error.NotAKey = NotAKey
status_of_edit edit_error.NotAName = NotAName
status_of_edit edit_error.NotInBraces = NotInBraces
status_of_edit edit_error.DefinitionIsThere = DefinitionIsThere
status_of_edit edit_error.NoFieldLeft = NoFieldLeft
status_of_edit edit_error.NotBare = NotBare
status_of_edit edit_error.OutOfMemory = OutOfMemory
