-- Meaning: words of public contracts.
-- The texts of messages on standard error.
use Rattle.std.specs.Prelude.{◌++◌, ℕ, Bool, if◌then◌else◌, List, codes, Option, Some, None, string_bytes}
use Rattle.std.specs.Fmt.{decimal}
use Rattle.std.specs.IoError.{error_kind}
use Rattle.std.specs.declared.io.ErrorKind.{ErrorKind}
use Rattle.std.specs.declared.io.ErrorKind.TheVariants.{PermissionDenied, InvalidInput, StorageFull}
use Rattle.bib_from_csl.specs.declared.losses.LossKind.{LossKind}
use Rattle.bib_from_csl.specs.declared.losses.LossKind.TheVariants as loss
use Rattle.bib_from_csl.specs.declared.reading.Fault.{Fault}
use Rattle.bib_from_csl.specs.declared.reading.Fault.TheVariants as fault
use Rattle.bib_from_json.specs.declared.reading.Fault.{Fault as ObjectFault}
use Rattle.bib_from_json.specs.declared.reading.Fault.TheVariants as object
use Rattle.bib_recode.specs.declared.decoding.DecodeError.{DecodeError}
use Rattle.bib_recode.specs.declared.decoding.DecodeError.TheVariants as decode
use Rattle.bib_source.specs.declared.positions.Position.{Position}
use Rattle.bibkit_core.specs.declared.replacing.ReplaceError.{ReplaceError}
use Rattle.bibkit_core.specs.declared.replacing.ReplaceError.TheVariants as replace
use Rattle.edit_convert.specs.declared.notes.NoteKind.{NoteKind}
use Rattle.edit_convert.specs.declared.notes.NoteKind.TheVariants as note
use Rattle.bibkit_commands.specs.declared.stops.Stop.{Stop}
use Rattle.bibkit_commands.specs.declared.stops.Stop.TheVariants.{Said, OutOfMemory}

-- the message and the status of a stop, or `None` if out of memory
abbrev pub says : Stop → Option (List ℕ × ℕ)
says (Said text status) = Some (string_bytes text, status)
says OutOfMemory = None

-- ---- lines

-- the text of a message of the program, with a line feed
abbrev pub of_program : List ℕ → List ℕ
of_program text = codes "bibkit: " ++ (text ++ codes "\n")

-- the text of a message on a file
abbrev pub on_file : List ℕ → List ℕ → List ℕ
on_file name text = codes "bibkit: " ++ (name ++ (codes ": " ++ (text ++ codes "\n")))

-- a line with a position in a file, FILE:LINE:COLUMN: TEXT, where the text begins with a word such as `error`
abbrev pub line_at : List ℕ → Position → List ℕ → List ℕ → List ℕ
line_at name place word text =
    name ++ (codes ":" ++ (decimal place.line ++ (codes ":" ++ (decimal place.column ++ (codes ": " ++ (word ++ (codes ": "
    ++ (text ++ codes "\n"))))))))

-- the line of an error
abbrev pub line_of_error : List ℕ → Position → List ℕ → List ℕ
line_of_error name place text = line_at name place (codes "error") text

-- the line of a note
abbrev pub line_of_note : List ℕ → Position → List ℕ → List ℕ
line_of_note name place text = line_at name place (codes "note") text

-- ---- files that aren't written

-- the reason why a file can't be written
abbrev pub write_reason : ErrorKind → List ℕ
write_reason PermissionDenied = codes "can't be written: permission denied"
write_reason InvalidInput = codes "not a regular file"
write_reason StorageFull = codes "can't be written: the disk is full"
write_reason _ = codes "can't be written"

-- the reason why replacing a file failed
abbrev pub unwritten_reason : ReplaceError → List ℕ
unwritten_reason (replace.NotReplaced error) = write_reason (error_kind error)
unwritten_reason (replace.Unsure error) = write_reason (error_kind error)
unwritten_reason (replace.Unsettled error) = codes "written, but a crash of the machine may lose it"
unwritten_reason _ = codes "can't be written"

-- the message for a word that isn't two texts with an equals sign between them
abbrev pub no_pair_text : List ℕ → List ℕ → List ℕ
no_pair_text word pair = codes "`" ++ (word ++ (codes "` isn't " ++ (pair ++ codes "; use `--file` for the name of the file")))

-- the message for the definition of a name that uses its own name, or a later one
abbrev pub early_use_text : List ℕ → List ℕ
early_use_text name = codes "the definition of `" ++ (name ++ codes "` uses its own name, or one that is defined later")

-- the message for an entry that inherits from itself
abbrev pub cycle_text : List ℕ → List ℕ
cycle_text key = codes "entry `" ++ (key ++ codes "` inherits from itself [circular-reference]")

-- ---- convert

-- the note on a field that is kept under its name, or that no standard style of BibTeX reads as a whole
abbrev pub text_of_note : NoteKind → List ℕ → List ℕ
text_of_note note.NameIsThere field =
    codes "`" ++ (field ++ codes "` is kept: the entry already has the field that would replace it")
text_of_note note.DateStays field =
    codes "`" ++ (field ++ codes "` is kept: it isn't one date, or the entry already has a field for a part of it")
text_of_note note.MonthStays field = codes "`" ++ (field ++ codes "` is kept: it can't be joined with a year to a date")
text_of_note note.NotRead field = codes "no standard style of BibTeX reads `" ++ (field ++ codes "`")
text_of_note note.PartsNotRead field =
    codes "`" ++ (field ++ codes "` becomes several fields, but no standard style of BibTeX reads a day or a second date")

-- the message for a text whose CSL-JSON items can't be converted
abbrev pub fault_text : Fault → List ℕ
fault_text fault.NotJson = codes "expected JSON"
fault_text fault.NotAnArray = codes "expected an array of items, or one item"
fault_text fault.NotAnObject = codes "expected an item, which is an object"
fault_text fault.NoId = codes "expected a text or a number as the `citation-key`, the `id` or the `DOI` of the item"
fault_text fault.NoType = codes "expected a text as the `type` of the item"
fault_text fault.WrongForm = codes "a variable of the item has a form that CSL doesn't allow"
fault_text fault.KeyTwice = codes "the item has the key of an earlier one"

-- the message for a fault of a text whose objects can't be converted
abbrev pub object_fault_text : ObjectFault → List ℕ
object_fault_text object.NotJson = codes "expected JSON"
object_fault_text object.NotEntries = codes "expected an array of entries, or one entry"
object_fault_text object.NotAnObject = codes "expected an entry, which is an object"
object_fault_text object.NoKey = codes "expected a text as the `key` of the entry"
object_fault_text object.NoType = codes "expected a text as the `type` of the entry"
object_fault_text object.NoFields = codes "expected an object as the `fields` of the entry"
object_fault_text object.EntryMember = codes "expected one `type`, one `key`, one `fields`, one `date` or none, and no other member"
object_fault_text object.FieldTwice = codes "two fields have one name"
object_fault_text object.NoChunks = codes "expected an object with an array as `chunks`"
object_fault_text object.FieldMember = codes "expected one `chunks`, one `value` or none, and no other member"
object_fault_text object.NotAChunk = codes "expected chunks with texts as `kind` and `text`"
object_fault_text object.ChunkMember = codes "expected no other members of a chunk than `kind`, `text`, `start` and `end`, once each"
object_fault_text object.WrongKind = codes "expected `normal`, `verbatim` or `math` as the `kind` of a chunk"
object_fault_text object.KeyTwice = codes "an earlier entry has this key, or has it in `ids`"
object_fault_text object.NotWritable = codes "the written entry can't be parsed as one entry with this type and key"
object_fault_text object.OtherFields = codes "the written entry would be parsed with other fields"
object_fault_text object.OtherText = codes "the written field would be parsed as another text"

-- the end of the note on a member of an item that is lost or changed in the entry
abbrev pub loss_text : LossKind → List ℕ
loss_text loss.NoField = codes "is left out: no field for it"
loss_text loss.Changed = codes "is changed: its field reads back as another value"
loss_text loss.Partly = codes "is kept in part: no field for the rest"

-- the end of the note on one or several members of an item for which the entry has no field
abbrev pub left_out_text : Bool → List ℕ
left_out_text has_several = if has_several then codes "are left out: no fields for them" else loss_text loss.NoField

-- ---- recode

-- the message for an error of decoding a file
abbrev pub decode_line : List ℕ → DecodeError → List ℕ
decode_line name (decode.NotUtf8 at) = codes "bibkit: " ++ (name ++ (codes ": not UTF-8 from byte " ++ (decimal at ++ codes " on\n")))
decode_line name (decode.UnpairedSurrogate at) =
    codes "bibkit: " ++ (name ++ (codes ": not UTF-16: an unpaired surrogate at byte " ++ (decimal at ++ codes "\n")))
decode_line name (decode.OddByte at) =
    codes "bibkit: " ++ (name ++ (codes ": not UTF-16: an odd number of bytes; the last is byte " ++ (decimal at ++ codes "\n")))
decode_line name decode.OutOfMemory = of_program (codes "out of memory")

-- ---- rekey

-- the message for a key that would change
abbrev pub key_message : List ℕ → List ℕ → List ℕ
key_message old new = codes "the key of `" ++ (old ++ (codes "` isn't `" ++ (new ++ codes "`")))

-- the note on an entry with a reference to a name that no entry had before, with the position of the key of the entry
abbrev pub caught_line : List ℕ → Position → List ℕ → List ℕ
caught_line name place first =
    name ++ (codes ":" ++ (decimal place.line ++ (codes ":" ++ (decimal place.column ++ (codes ": note: the reference to `" ++ (first
    ++ codes "` led to no entry, and now leads to one with this new key\n"))))))
