-- Meaning: words of public contracts.
-- The texts of fields, plain or with HTML tags, as in CSL-JSON. A text is a list of its bytes.
use Rattle.std.specs.Prelude.{ℕ, Bool, true, false, ◌==◌, ◌-◌, nat_lt, if◌then◌else◌, List, [], ◌∷◌, ◌++◌, bytes_eq, length, codes, eqb, ◌&&◌, ◌||◌, Option, Some, None}
use Rattle.std.specs.FinMap as by_name
use Rattle.std.specs.List.{ends_with, flat_map, list_any}
use Rattle.std.specs.Str.{chars}
use Rattle.bib_text.specs.Enums.{words}
use Rattle.bib_text.specs.declared.spanned.Spanned.{Spanned}
use Rattle.bib_chunks.specs.declared.chunk.Chunk.{Chunk}
use Rattle.bib_chunks.specs.declared.chunk.Chunk.TheVariants.{Normal, Verbatim, Math}
use Rattle.bib_chunks.specs.Cuts.{and_list}
use Rattle.bib_chunks.specs.Values.{Value, text}
use Rattle.bib_entry.specs.declared.entry.Entry.{Entry}
use Rattle.bib_entry.specs.Fields.{field_or}
use Rattle.bib_csl.specs.Markup.{marked_text}

-- the field of this name
abbrev pub field : Entry → List ℕ → Option Value
field entry name = by_name.get entry.fields name

-- the plain text of a field: its formatted text, or nothing if it is missing
unfoldable pub shown_field : Option Value → List ℕ
shown_field None = []
shown_field (Some chunks) = text chunks

-- a text in a tag that keeps its case in every style; an empty text has no tag
unfoldable pub keeping_case : List ℕ → List ℕ
keeping_case text = if length text == 0 then [] else codes "<span class=\"nocase\">" ++ (text ++ codes "</span>")

-- the text of a chunk with its commands replaced, with HTML tags or without them; math is unchanged
unfoldable pub tagged : Bool → Chunk → List ℕ → List ℕ
tagged has_tags (Normal whole) text = marked_text has_tags (chars text)
tagged has_tags (Verbatim whole) text = marked_text has_tags (chars text)
tagged has_tags (Math whole) text = text

-- whether the text of a chunk is one character beyond ASCII, and its place in the file is longer than the text. An accented letter that
-- is written by a command, such as `{\'e}`, has such a place
unfoldable pub is_letter_of_command : Spanned Chunk → List ℕ → Bool
is_letter_of_command c text =
    (length (chars text) == 1) && (nat_lt 1 (length text) && nat_lt (length text) (c.span.end - c.span.start))

-- the text of a chunk in braces in a title: in a tag that keeps its case, unless it is empty or `is_letter_of_command` holds
unfoldable pub braced_in_title : Spanned Chunk → List ℕ → List ℕ
braced_in_title c text = if is_letter_of_command c text then text else keeping_case text

-- whether a chunk is in braces
abbrev pub is_in_braces : Chunk → Bool
is_in_braces (Normal whole) = false
is_in_braces (Verbatim whole) = true
is_in_braces (Math whole) = false

-- the text of a chunk; if it is in braces in a title, as `braced_in_title` has it
unfoldable pub keeping_its_case : Bool → Spanned Chunk → List ℕ → List ℕ
keeping_its_case is_title c text = if is_title && is_in_braces c.v then braced_in_title c text else text

-- the text of a chunk with HTML tags; the chunk is formatted by itself
unfoldable pub marked_chunk : Bool → Spanned Chunk → List ℕ
marked_chunk is_title c = keeping_its_case is_title c (tagged true c.v (text (c ∷ [])))

-- the text of chunks with HTML tags
unfoldable pub marked_chunks : Bool → Value → List ℕ
marked_chunks is_title chunks = flat_map (marked_chunk is_title) chunks

-- the text of chunks with its commands replaced, without HTML tags
unfoldable pub bare_text : Value → List ℕ
bare_text chunks = flat_map (λ c. tagged false c.v (text (c ∷ []))) chunks

-- the text of a field with HTML tags, or nothing if the field is missing
unfoldable pub marked_field : Bool → Option Value → List ℕ
marked_field is_title None = []
marked_field is_title (Some chunks) = marked_chunks is_title chunks

-- the text of a field that is a title, with HTML tags
unfoldable pub title_text : Entry → List ℕ → List ℕ
title_text entry name = marked_field true (field entry name)

-- the text of a field that is no title, with HTML tags
unfoldable pub rich_text : Entry → List ℕ → List ℕ
rich_text entry name = marked_field false (field entry name)

-- the text of the field `name`, or else of the field `other`, with HTML tags
unfoldable pub rich_text_or : Entry → List ℕ → List ℕ → List ℕ
rich_text_or entry name other = marked_field false (field_or entry name other)

-- the first text, or the other one if the first is empty
unfoldable pub either : List ℕ → List ℕ → List ℕ
either first other = if length first == 0 then other else first

-- two texts with the separator between them, or only one of them if the other is empty
unfoldable pub joined : List ℕ → List ℕ → List ℕ → List ℕ
joined separator first next =
    if length next == 0 then first
    else if length first == 0 then next
    else first ++ (separator ++ next)

-- the marks after which no other mark is written
abbrev pub marks : List (List ℕ)
marks = words (codes "? ! . , : ;")

-- whether a text ends with one of these marks and then this end
abbrev pub ends_with_mark_before : List ℕ → List ℕ → Bool
ends_with_mark_before end text = list_any (λ mark. ends_with eqb text (mark ++ end)) marks

-- whether a text ends with one of these marks, or with one and then the closing tag `</i>` or `</span>`
unfoldable pub ends_with_mark : List ℕ → Bool
ends_with_mark text =
    ends_with_mark_before [] text || (ends_with_mark_before (codes "</i>") text || ends_with_mark_before (codes "</span>") text)

-- the separator of two texts: a mark and a space, or only the space after a text that ends with a mark of its own
unfoldable pub mark_after : List ℕ → List ℕ → List ℕ
mark_after mark first = if ends_with_mark first then codes " " else mark ++ codes " "

-- two texts with a mark and a space between them, or only one of them if the other is empty
unfoldable pub joined_by_mark : List ℕ → List ℕ → List ℕ → List ℕ
joined_by_mark mark first next = joined (mark_after mark first) first next

-- the texts of a list after another text, with semicolons between them
abbrev pub listed_after : List ℕ → List Value → List ℕ
listed_after before [] = before
listed_after before (part ∷ parts) = listed_after (joined (codes "; ") before (marked_chunks false part)) parts

-- the texts of a field that is a list, or nothing if the field is missing
unfoldable pub listed_field : Option Value → List ℕ
listed_field None = []
listed_field (Some chunks) = listed_after [] (and_list chunks)

-- the text for BibLaTeX's keys in the field `series`, or any other text as it is
unfoldable pub series_named : List ℕ → List ℕ
series_named text =
    if bytes_eq text (codes "newseries") then codes "new series"
    else if bytes_eq text (codes "oldseries") then codes "old series"
    else text
