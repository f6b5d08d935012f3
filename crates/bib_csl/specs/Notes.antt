-- Meaning: words of public contracts.
-- The abstract, the notes, the keywords and the language of an item.
use Rattle.std.specs.Prelude.{ℕ, Bool, ◌==◌, ◌&&◌, ◌||◌, not, if◌then◌else◌, List, [], ◌∷◌, ◌++◌, length, drop, codes, bytes_eq, eqb, Option, Some, None}
use Rattle.std.specs.List.{starts_with}
use Rattle.std.specs.Option.{option_or}
use Rattle.bib_chunks.specs.Values.{Value, text}
use Rattle.bib_entry.specs.declared.entry.Entry.{Entry}
use Rattle.bib_entry.specs.Fields.{field_or}
use Rattle.bib_tables.specs.Language.{language_named, language_row}
use Rattle.bib_tables.specs.declared.types.lang.Language.{Language}
use Rattle.bib_tables.specs.declared.types.lang.Language.TheVariants.{EnglishUK}
use Rattle.bib_csl.specs.declared.item.Field.{Field}
use Rattle.bib_csl.specs.declared.variables.Variable.TheVariants as variable
use Rattle.bib_csl.specs.Adding.{given_plain, given_rich, given_rich_or}
use Rattle.bib_csl.specs.Fields.{given}
use Rattle.bib_csl.specs.Identifiers.{named_address}
use Rattle.bib_csl.specs.Named.{pair, text_named}
use Rattle.bib_csl.specs.Publishing.{named_publisher}
use Rattle.bib_csl.specs.Tables.{field_in_table}
use Rattle.bib_csl.specs.Texts.{field, shown_field, rich_text, either, joined_by_mark}
use Rattle.bib_csl.specs.Ways.{begins_with_address, way_as_address, way_of}

-- the tag of a language (BCP 47)
unfoldable pub tag_of : Language → List ℕ
tag_of EnglishUK = codes "en-GB"
tag_of language = (language_row language).tag

-- languages that the table of languages lacks: BibLaTeX's name and the tag
abbrev pub other_languages : List (List ℕ × List ℕ)
other_languages =
    pair "acadian" "fr-CA" ∷
    pair "canadien" "fr-CA" ∷
    pair "francais" "fr" ∷
    pair "frenchb" "fr" ∷
    pair "brazilian" "pt-BR" ∷
    pair "mexican" "es-MX" ∷
    pair "galician" "gl" ∷
    pair "latin" "la" ∷
    pair "norwegian" "no" ∷
    pair "ukenglish" "en-GB" ∷
    pair "usenglish" "en-US" ∷
    []

-- the tag of a language for a name of BibLaTeX that the table of languages lacks; nothing for other names
unfoldable pub tag_named : List ℕ → List ℕ
tag_named = text_named other_languages

-- the tag of a language that is found under its name, or of one that the table lacks; nothing if there is none
abbrev pub tag_found : Option Language → List ℕ → List ℕ
tag_found None name = tag_named name
tag_found (Some language) name = tag_of language

-- the name of a language in a text: BibLaTeX's keys, such as `langfrench`, have `lang` before it
unfoldable pub name_of_language : List ℕ → List ℕ
name_of_language text = if starts_with eqb text (codes "lang") then drop 4 text else text

-- the tag of the language with this name, or nothing if there is none
unfoldable pub tag_of_name : List ℕ → List ℕ
tag_of_name name = tag_found (language_named name) name

-- the language of a field: the tag of the language that its text names, or else the text
unfoldable pub language_of : Option Value → List ℕ
language_of None = []
language_of (Some chunks) = either (tag_of_name (name_of_language (text chunks))) (text chunks)

-- the publication status for BibLaTeX's keys in the field `pubstate`, or any other text as it is
unfoldable pub status_named : List ℕ → List ℕ
status_named text =
    if bytes_eq text (codes "inpreparation") then codes "in preparation"
    else if bytes_eq text (codes "inpress") then codes "in press"
    else if bytes_eq text (codes "prepublished") then codes "pre-published"
    else text

-- the field with the language: `langid`, or `hyphenation`, its former name, or else `language`
abbrev pub language_value : Entry → Option Value
language_value entry = option_or (field_or entry (codes "langid") (codes "hyphenation")) (field entry (codes "language"))

-- whether an address in `howpublished` is the address of the item
abbrev pub is_way_address : Entry → Bool
is_way_address entry =
    not (length (way_as_address entry) == 0)
    && (length (named_address entry) == 0 || bytes_eq (named_address entry) (way_as_address entry))

-- whether `howpublished` is the address of the item if it begins with an address; otherwise, whether the item has no other publisher
unfoldable pub is_way_printed : Entry → Bool
is_way_printed entry =
    if begins_with_address (way_of entry) then is_way_address entry else length (named_publisher entry) == 0

-- the field `howpublished`, unless it is the address of the item, or is printed as its publisher because the item has no other
unfoldable pub way_in_note : Entry → List ℕ
way_in_note entry = if is_way_printed entry then [] else way_of entry

-- the fields `note` and `addendum`, and `way_in_note`; between them are full stops, as by `joined_by_mark`
unfoldable pub note_of : Entry → List ℕ
note_of entry =
    let note = rich_text entry (field_in_table variable.Note) in
    joined_by_mark (codes ".") (joined_by_mark (codes ".") note (rich_text entry (codes "addendum"))) (way_in_note entry)

-- the abstract, the annotation, the note, the publication status, the keywords and the language
unfoldable pub note_fields : Entry → List Field
note_fields entry =
    given_rich variable.Abstract entry ++
    (given_rich_or variable.Annote entry (codes "annote") ++
    (given variable.Note (note_of entry) ++
    (given variable.Status (status_named (shown_field (field entry (field_in_table variable.Status)))) ++
    (given_plain variable.Keyword entry ++
    given variable.Language (language_of (language_value entry))))))
