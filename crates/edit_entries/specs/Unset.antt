-- Meaning: words of public contracts.
-- Unsetting a field of an entry: the edits of the text, and the outcome. ASCII white space is a space, tab, line feed, form feed or
-- carriage return.
use Rattle.std.specs.Prelude.{◌≡◌, ℕ, zero, suc, ◌+◌, ◌-◌, ◌==◌, ◌&&◌, ◌||◌, not, Bool, true, false, if◌then◌else◌, List, [], ◌∷◌, ◌++◌, codes, filter, Option, Some, None, slice_get, slice_set}
use Rattle.std.specs.Char.{is_ascii_whitespace}
use Rattle.std.specs.List.{list_any, prefix_len}
use Rattle.std.specs.Option.{option_map_or}
use Rattle.bib_text.specs.Characters as char
use Rattle.bib_text.specs.Places.{between, place}
use Rattle.bib_syntax.specs.Reading.{EntryReading, FieldReading}
use Rattle.bib_queries.specs.Bytes.{has_byte_at, has_percent}
use Rattle.edit_entries.specs.Changes.{value_end}
use Rattle.edit_entries.specs.Documents.{Document, HasEntry, field_edit, field_limit, has_name, have_only}
use Rattle.edit_entries.specs.Edits.{Edit, edited_all, placeless}

-- ---- byte offsets

-- the byte offset after the longest run of bytes that pass a test, from the first byte offset on and before the second one
abbrev pub after_bytes : (ℕ → Bool) → List ℕ → ℕ → ℕ → ℕ
after_bytes test text start end = start + prefix_len test (between (place text start) (place text end))

-- whether a byte isn't a line feed
abbrev pub is_no_line_feed : ℕ → Bool
is_no_line_feed b = not (b == char.line_feed)

-- whether a byte is ASCII white space other than a line feed
abbrev pub is_line_space : ℕ → Bool
is_line_space b = is_ascii_whitespace b && is_no_line_feed b

-- the byte offset of the line end at a line feed: LF or CR LF
abbrev pub line_end_at : List ℕ → ℕ → ℕ
line_end_at text feed = if has_byte_at text (feed - 1) char.carriage_return then feed - 1 else feed

-- the byte offset after the line comment at `sign` and the ASCII white space after it, or `sign` if no comment is there. `end` bounds both
abbrev pub after_comment : List ℕ → ℕ → ℕ → ℕ
after_comment text sign end =
    if has_byte_at text sign char.percent then after_bytes is_ascii_whitespace text (after_bytes is_no_line_feed text sign end) end
    else sign

-- the byte offset after the ASCII white space at a byte offset, in which one line comment may occur; `end` bounds both
abbrev pub gap_end : List ℕ → ℕ → ℕ → ℕ
gap_end text start end = after_comment text (after_bytes is_ascii_whitespace text start end) end

-- ---- the commas around a field

-- the byte offset at which the value before the field with an index ends, or the key before the first field
abbrev pub end_before : EntryReading → ℕ → ℕ
end_before e zero = e.key.end
end_before e (suc j) = option_map_or (λ f. f.value.end) (slice_get e.fields j) e.key.end

-- the byte offset at which the comma before a field is expected: after ASCII white space and at most one comment
abbrev pub comma_before : List ℕ → EntryReading → ℕ → FieldReading → ℕ
comma_before text e j f = gap_end text (end_before e j) f.name.start

-- the byte offset at which the comma of a field or else the closing brace is expected, after ASCII white space and at most one comment
abbrev pub comma_after : List ℕ → EntryReading → ℕ → FieldReading → ℕ
comma_after text e j f = gap_end text f.value.end (field_limit e j)

-- whether a comma or a closing brace is at `comma_after`
abbrev pub is_closed : List ℕ → EntryReading → ℕ → FieldReading → Bool
is_closed text e j f =
    has_byte_at text (comma_after text e j f) char.comma || has_byte_at text (comma_after text e j f) char.close_brace

-- whether a line comment follows a field's value on the line on which the value ends. A value's span ends after the white space after it.
abbrev pub has_comment_beside : List ℕ → FieldReading → Bool
has_comment_beside text f =
    has_byte_at text f.value.end char.percent
    && (after_bytes is_no_line_feed text (value_end text f) f.value.end == f.value.end)

-- the byte offset at which a field without a comma ends: after the comment on the line of its value's end, or else after its value.
-- So a comment on a line of its own after the last value stays.
abbrev pub own_end : List ℕ → EntryReading → ℕ → FieldReading → ℕ
own_end text e j f =
    if has_comment_beside text f
    then line_end_at text (after_bytes is_no_line_feed text f.value.end (field_limit e j))
    else value_end text f

-- the byte offset after the comma of a field, or at which it ends if it has no comma
abbrev pub comma_end : List ℕ → EntryReading → ℕ → FieldReading → ℕ
comma_end text e j f =
    if has_byte_at text (comma_after text e j f) char.comma then comma_after text e j f + 1 else own_end text e j f

-- ---- a field without a comment before it

-- the edit that removes a field without a comment before it, from after the comma before it up to and including its own comma. If it
-- has no comma, the edit ends at `own_end`
abbrev pub line_edit : List ℕ → EntryReading → ℕ → FieldReading → Edit
line_edit text e j f = record { start = comma_before text e j f + 1; end = comma_end text e j f; bytes = [] }

-- ---- a field with a comment before it

-- the byte offset after the comma before a field and the ASCII white space after that comma
abbrev pub sign_before : List ℕ → EntryReading → ℕ → FieldReading → ℕ
sign_before text e j f = after_bytes is_ascii_whitespace text (comma_before text e j f + 1) f.name.start

-- the byte offset of the line feed that ends the comment before a field
abbrev pub feed_before : List ℕ → EntryReading → ℕ → FieldReading → ℕ
feed_before text e j f = after_bytes is_no_line_feed text (sign_before text e j f) f.name.start

-- the byte offset after `comma_end` and the ASCII white space there
abbrev pub sign_after : List ℕ → EntryReading → ℕ → FieldReading → ℕ
sign_after text e j f = after_bytes is_ascii_whitespace text (comma_end text e j f) (field_limit e j)

-- the byte offset of the first line feed after `comma_end`, if only ASCII white space is between them
abbrev pub feed_after : List ℕ → EntryReading → ℕ → FieldReading → ℕ
feed_after text e j f = after_bytes is_line_space text (comma_end text e j f) (field_limit e j)

-- the edit that removes a field between two comments: they become one line, since an entry can't have two comments in a row
abbrev pub joining_edit : List ℕ → EntryReading → ℕ → FieldReading → Edit
joining_edit text e j f =
    record { start = line_end_at text (feed_before text e j f); end = sign_after text e j f; bytes = codes " " }

-- the edit that removes the lines of a field after a comment, up to and including the line feed at `feed_after`
abbrev pub lines_edit : List ℕ → EntryReading → ℕ → FieldReading → Edit
lines_edit text e j f = record { start = feed_before text e j f + 1; end = feed_after text e j f + 1; bytes = [] }

-- the edit that removes a field after a comment. If another comment is after `comma_end`, the two are joined. If only ASCII white space
-- with a line feed is between `comma_end` and the next field or the closing brace, its lines are removed. Otherwise there is no edit.
abbrev pub following_edit : List ℕ → EntryReading → ℕ → FieldReading → Option Edit
following_edit text e j f =
    if has_byte_at text (sign_after text e j f) char.percent then Some (joining_edit text e j f)
    else if (sign_after text e j f == field_limit e j) && has_byte_at text (feed_after text e j f) char.line_feed
    then Some (lines_edit text e j f)
    else None

-- `following_edit`, if the text after the comma before the field is ASCII white space and then a comment that ends with a line feed
abbrev pub commented_edit : List ℕ → EntryReading → ℕ → FieldReading → Option Edit
commented_edit text e j f =
    if has_byte_at text (sign_before text e j f) char.percent && has_byte_at text (feed_before text e j f) char.line_feed
    then following_edit text e j f
    else None

-- the edit that removes a field and no comment of another field, if there is one. The comma before the field, and the comma or the closing
-- brace after it, must be found
abbrev pub own_edit : List ℕ → EntryReading → ℕ → FieldReading → Option Edit
own_edit text e j f =
    if has_byte_at text (comma_before text e j f) char.comma && is_closed text e j f
    then (
    if has_percent text (comma_before text e j f) f.name.start then commented_edit text e j f else Some (line_edit text e j f)
    )
    else None

-- ---- the fields with a name

-- the edit that removes a field of an entry up to the next field or the closing brace, if the field has this name
abbrev pub removal : List ℕ → EntryReading → ℕ → FieldReading → List Edit
removal name e index f = if has_name name f then field_edit e index f ∷ [] else []

-- the edits that remove those of these fields that have this name, each up to the next field or the closing brace. The first of these
-- fields has the given index
abbrev pub removals : List ℕ → EntryReading → ℕ → List FieldReading → List Edit
removals name e index [] = []
removals name e index (f ∷ rest) = removal name e index f ++ removals name e (suc index) rest

-- the edit that removes a field with the comma after it and no comment of another field. There is one if the commas around it are found
-- and no percent sign is between the first of them and the field
abbrev pub plain_edit : List ℕ → EntryReading → ℕ → FieldReading → Option Edit
plain_edit text e j f =
    if has_byte_at text (comma_before text e j f) char.comma && has_byte_at text (comma_after text e j f) char.comma
    && not (has_percent text (comma_before text e j f) f.name.start)
    then Some (record { start = comma_before text e j f + 1; end = comma_after text e j f + 1; bytes = [] })
    else None

-- the edit that removes a field and no comment of another field, if there is one. The first argument is whether a later field has the same
-- name
abbrev pub edit_before : Bool → List ℕ → EntryReading → ℕ → FieldReading → Option Edit
edit_before true text e j f = plain_edit text e j f
edit_before false text e j f = own_edit text e j f

-- the first edit and the later ones, unless the first or the later ones are missing
abbrev pub with_edit : Option Edit → Option (List Edit) → Option (List Edit)
with_edit None more = None
with_edit (Some edit) None = None
with_edit (Some edit) (Some edits) = Some (edit ∷ edits)

-- the edits that remove those of these fields that have this name, and no comment of another field, if there is one for each of them.
-- The first of these fields has the given index
abbrev pub own_edits : List ℕ → List ℕ → EntryReading → ℕ → List FieldReading → Option (List Edit)
own_edits text name e index [] = Some []
own_edits text name e index (f ∷ rest) =
    if has_name name f
    then with_edit (edit_before (list_any (has_name name) rest) text e index f) (own_edits text name e (suc index) rest)
    else own_edits text name e (suc index) rest

-- these edits, or else those that remove each field with this name up to the next field or the closing brace
abbrev pub or_removals : List ℕ → EntryReading → Option (List Edit) → List Edit
or_removals name e None = removals name e 0 e.fields
or_removals name e (Some edits) = edits

-- the edits that unset the fields with this name in an entry. Each of them is removed without a comment of another field, if there are
-- edits that do it. Otherwise each is removed up to the next field or the closing brace.
abbrev pub unset_edits : List ℕ → List ℕ → EntryReading → List Edit
unset_edits text name e = or_removals name e (own_edits text name e 0 e.fields)

-- ---- the outcome

-- an entry without its fields with this name, in any ASCII case
abbrev pub without_named : List ℕ → EntryReading → EntryReading
without_named name e = record e { fields = filter (λ f. not (has_name name f)) e.fields }

-- the document after a field is unset in the first entry with this key. Each field with the name is removed, and the entry doesn't lose
-- all its fields. The reading is as it was except for these fields and byte offsets.
pub data FieldUnset (d : Document) (key name : List ℕ) : Document → Type 0 where
  unset : {k : ℕ} {e : EntryReading} {after : Document} → HasEntry d key k e → have_only name e.fields ≡ false
      → after.text ≡ edited_all (unset_edits d.text name e) d.text
      → placeless after.says ≡ placeless (record d.says { entries = slice_set d.says.entries k (without_named name e) })
      → FieldUnset d key name after
