-- Meaning: words of public contracts.
-- The numbers of an item.
use Rattle.std.specs.Prelude.{ℕ, ◌==◌, Bool, false, if◌then◌else◌, List, [], ◌∷◌, ◌++◌, codes, encode_utf8, Option, Some, None}
use Rattle.std.specs.Char.{is_whitespace}
use Rattle.std.specs.Str.{chars}
use Rattle.std.specs.declared.ops.Range.{Range}
use Rattle.bib_text.specs.Characters as char
use Rattle.bib_chunks.specs.Values.{Value, text}
use Rattle.bib_entry.specs.declared.entry.Entry.{Entry}
use Rattle.bib_values.specs.Ranges.{is_dash, ranges_read}
use Rattle.bib_csl.specs.declared.item.Field.{Field}
use Rattle.bib_csl.specs.declared.item_types.ItemType.{ItemType}
use Rattle.bib_csl.specs.declared.variables.Variable.TheVariants.{Volume, NumberOfVolumes, PartNumber, Issue, Number, CollectionNumber, Edition, ChapterNumber, Page, NumberOfPages, Version}
use Rattle.bib_csl.specs.Adding.{given_rich}
use Rattle.bib_csl.specs.Fields.{given}
use Rattle.bib_csl.specs.Tables.{field_in_table}
use Rattle.bib_csl.specs.Texts.{either, field, joined, marked_chunks, rich_text}
use Rattle.bib_csl.specs.Types.{counts_issues, counts_series}

-- the issue: the fields `number` and `issue` if `number` counts issues, otherwise `issue`
unfoldable pub issue_of : ItemType → List ℕ → List ℕ → List ℕ
issue_of kind number issue = if counts_issues kind then joined (codes ", ") number issue else issue

-- the number of the item itself: `number`, or else `eid`, the number of an article in place of its pages; only `eid` if `number` counts the
-- issues or the works of a series
unfoldable pub own_number : ItemType → List ℕ → List ℕ → List ℕ
own_number kind number eid = if counts_issues kind then eid else if counts_series kind then eid else either number eid

-- the number in the series, if `number` counts the works of a series
unfoldable pub collection_number : ItemType → List ℕ → List ℕ
collection_number kind number = if counts_series kind then number else []

-- the output for a character of ranges of pages: nothing for white space, and nothing for a dash after a dash. Any other dash becomes an en
-- dash, and a comma becomes a comma and a space. Any other character is unchanged, also a zero at the start of a page.
unfoldable pub page_sign : Bool → ℕ → List ℕ
page_sign follows_dash c =
    if is_whitespace c then []
    else if is_dash c then (if follows_dash then [] else encode_utf8 char.en_dash)
    else if c == char.comma then codes ", "
    else encode_utf8 c

-- whether the last character so far that isn't white space is a dash
unfoldable pub follows_dash_after : Bool → ℕ → Bool
follows_dash_after follows_dash c = if is_whitespace c then follows_dash else is_dash c

-- ranges of pages with en dashes and with a space after each comma; the parsed text is a list of its characters
abbrev pub pages_from : Bool → List ℕ → List ℕ
pages_from follows_dash [] = []
pages_from follows_dash (c ∷ cs) = page_sign follows_dash c ++ pages_from (follows_dash_after follows_dash c) cs

-- the ranges of pages in chunks, if they can be parsed as such, otherwise their text with HTML tags
abbrev pub pages_text : Option (List (Range ℕ)) → Value → List ℕ
pages_text None chunks = marked_chunks false chunks
pages_text (Some ranges) chunks = pages_from false (chars (text chunks))

-- the pages of a field
unfoldable pub pages : Option Value → List ℕ
pages None = []
pages (Some chunks) = pages_text (ranges_read chunks) chunks

-- the volume, the number of volumes, the part, the issue, the number, and the number in the series
unfoldable pub volume_fields : ItemType → Entry → List Field
volume_fields kind entry =
    let number = rich_text entry (codes "number") in
    given_rich Volume entry ++
    (given_rich NumberOfVolumes entry ++
    (given_rich PartNumber entry ++
    (given Issue (issue_of kind number (rich_text entry (codes "issue"))) ++
    (given Number (own_number kind number (rich_text entry (codes "eid"))) ++
    given CollectionNumber (collection_number kind number)))))

-- the edition, the chapter, the pages, the number of pages, and the version
unfoldable pub page_fields : Entry → List Field
page_fields entry =
    given_rich Edition entry ++
    (given_rich ChapterNumber entry ++
    (given Page (pages (field entry (field_in_table Page))) ++
    (given_rich NumberOfPages entry ++
    given_rich Version entry)))
