-- Machinery: words of private contracts.
-- The note on a field, by the code's view of its entry.
use Rattle.std.specs.Prelude.{Option}
use Rattle.bib_syntax.specs.Reading.{FieldReading}
use Rattle.edit_convert.specs.Conversions.{other_name}
use Rattle.edit_convert.specs.Notes.{change_note}
use Rattle.edit_convert.specs.Tables.{replacement_by, lent_names}
use Rattle.edit_convert.specs.declared.notes.NoteKind.{NoteKind}
use Rattle.edit_convert.specs.declared.notes.Rules.{Rules}

-- the note on a field
abbrev pub rules_note : Rules → FieldReading → Option NoteKind
rules_note rules f = change_note rules.dialect (replacement_by rules.changes f) (other_name (lent_names rules.names.now) f.name.text) f
