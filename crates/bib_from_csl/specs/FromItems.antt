-- Meaning: words of public contracts.
-- Items written as BibLaTeX entries.
use Rattle.std.specs.Prelude.{ℕ, Bool, true, false, not, ◌&&◌, ◌||◌, ◌==◌, if◌then◌else◌, List, [], ◌∷◌, ◌++◌, length, codes, bytes_eq, encode_utf8, Option, Some, None}
use Rattle.std.specs.List.{flat_map, list_any}
use Rattle.std.specs.Str.{chars}
use Rattle.bib_text.specs.Characters as char
use Rattle.bib_syntax.specs.Characters.{is_key}
use Rattle.bib_csl.specs.declared.item.Content.{Content}
use Rattle.bib_csl.specs.declared.item.Content.TheVariants as content
use Rattle.bib_csl.specs.declared.variables.Form.{Form}
use Rattle.bib_csl.specs.declared.variables.Form.TheVariants as form
use Rattle.bib_from_csl.specs.declared.given.Given.{Given}
use Rattle.bib_from_csl.specs.declared.given.GivenItem.{GivenItem}
use Rattle.bib_from_csl.specs.declared.writing.Work.{Work}
use Rattle.bib_from_csl.specs.EntryTypes.{item_type_for, subtype_of, written_type_name}
use Rattle.bib_from_csl.specs.LanguageNames.{language_name}
use Rattle.bib_from_csl.specs.Values.{braced, listed_value, pages_value, plain_value, tagged_value}
use Rattle.bib_from_csl.specs.Variables.{beside_field, beside_text, form_of, variable_field}
use Rattle.bib_from_csl.specs.WrittenDates.{date_source}
use Rattle.bib_from_csl.specs.WrittenPeople.{have_fixed_prefix, names_value}

-- whether a member is the title of a volume
abbrev pub is_volume_title : Given → Bool
is_volume_title given = bytes_eq given.name (codes "volume-title")

-- whether a member is the title of an event, under its newer name
abbrev pub is_event_title : Given → Bool
is_event_title given = bytes_eq given.name (codes "event-title")

-- whether a content has a name with a prefix that is part of the family name
abbrev pub content_has_prefix : Option Content → Bool
content_has_prefix (Some (content.Names names)) = have_fixed_prefix names
content_has_prefix other = false

-- whether a member has a name with a prefix that is part of the family name
abbrev pub has_prefix : Given → Bool
has_prefix given = content_has_prefix given.content

-- the properties of an item that its fields depend on
unfoldable pub work_for_item : GivenItem → Work
work_for_item item = record {
  kind = item_type_for item.kind;
  in_work = list_any is_volume_title item.fields;
  uses_prefix = list_any has_prefix item.fields;
  has_event_title = list_any is_event_title item.fields;
}

-- the line of a field
abbrev pub entry_field_line : List ℕ → List ℕ → List ℕ
entry_field_line name value = codes "  " ++ (name ++ (codes " = " ++ (value ++ codes ",\n")))

-- the line of a field with this text, unless the text is empty
unfoldable pub known_line : List ℕ → List ℕ → List ℕ
known_line name text = if length text == 0 then [] else entry_field_line name (braced text)

-- the value of the field `field` for the text of the variable `name`, which is neither a list nor tagged
abbrev pub untagged_source : List ℕ → List ℕ → List ℕ → List ℕ
untagged_source field name text = if bytes_eq name (codes "page") then pages_value text else plain_value field text

-- the value of the field `field` for the text of the variable `name`, which has this form or is unknown
abbrev pub source_in : Option Form → List ℕ → List ℕ → List ℕ → List ℕ
source_in (Some form.Listed) field name text = listed_value text
source_in (Some form.Tagged) field name text = tagged_value text
source_in other field name text = untagged_source field name text

-- the value of the field `field` for the text of the variable `name`
unfoldable pub variable_source : List ℕ → List ℕ → List ℕ → List ℕ
variable_source field name text = source_in (form_of name) field name text

-- the value of the field `field` for the content of the variable `name`; `None` for a date that can't be written
abbrev pub content_source : Bool → List ℕ → List ℕ → Content → Option (List ℕ)
content_source uses_prefix field name (content.Text text) = Some (variable_source field name text)
content_source uses_prefix field name (content.Names names) = Some (names_value uses_prefix names)
content_source uses_prefix field name (content.Date date) = date_source date

-- the field for a language with this tag: `langid` if BibLaTeX has a name for it, otherwise `language`
abbrev pub language_field : List ℕ → List ℕ
language_field tag = if length (language_name tag) == 0 then codes "language" else codes "langid"

-- the value of the field for a language with this tag: BibLaTeX's name of the language, or else the tag
abbrev pub language_text : List ℕ → List ℕ
language_text tag = if length (language_name tag) == 0 then tag else language_name tag

-- the line of the field for a language with this tag
abbrev pub language_line : List ℕ → List ℕ
language_line tag = entry_field_line (language_field tag) (plain_value (language_field tag) (language_text tag))

-- the line of a field with this value and that of the additional field, or nothing without a value
abbrev pub lines_with : List ℕ → List ℕ → Option (List ℕ) → List ℕ
lines_with field name None = []
lines_with field name (Some value) = entry_field_line field value ++ known_line (beside_field name) (beside_text name)

-- the lines of a variable that has this field
abbrev pub valued_lines : Work → List ℕ → List ℕ → Content → List ℕ
valued_lines work field name content = lines_with field name (content_source work.uses_prefix field name content)

-- the lines of a variable that has this field, or nothing if the name of the field is empty
abbrev pub lines_in : Work → List ℕ → List ℕ → Content → List ℕ
lines_in work field name content = if length field == 0 then [] else valued_lines work field name content

-- the lines of a variable; the older name of the title of an event has none beside the newer one, which has the same field
abbrev pub content_lines : Work → List ℕ → Content → List ℕ
content_lines work name (content.Text text) =
    if bytes_eq name (codes "language") then language_line text
    else if work.has_event_title && bytes_eq name (codes "event") then []
    else lines_in work (variable_field work.kind work.in_work name) name (content.Text text)
content_lines work name (content.Names names) = lines_in work (variable_field work.kind work.in_work name) name (content.Names names)
content_lines work name (content.Date date) = lines_in work (variable_field work.kind work.in_work name) name (content.Date date)

-- whether a text or a list of names is empty
abbrev pub is_empty_content : Content → Bool
is_empty_content (content.Text text) = length text == 0
is_empty_content (content.Names names) = length names == 0
is_empty_content (content.Date date) = false

-- the lines of a content, or nothing if there is none or it is empty
abbrev pub member_lines : Work → List ℕ → Option Content → List ℕ
member_lines work name None = []
member_lines work name (Some content) = if is_empty_content content then [] else content_lines work name content

-- the lines of a member
abbrev pub given_lines : Work → Given → List ℕ
given_lines work given = member_lines work given.name given.content

-- whether a character is one of these, which have another use in BibTeX
abbrev pub is_special : ℕ → Bool
is_special c =
    c == char.open_brace || c == char.quote || c == char.hash || c == char.percent || c == char.backslash || c == char.tilde
    || c == char.open_parenthesis || c == char.close_parenthesis || c == char.equals || c == char.apostrophe || c == char.at

-- whether a character can be in the key of an entry, also for BibTeX
abbrev pub is_of_key : ℕ → Bool
is_of_key c = is_key c && not (is_special c)

-- a character of a key, or an underscore for one that can't be in a key
abbrev pub key_character : ℕ → List ℕ
key_character c = if is_of_key c then encode_utf8 c else codes "_"

-- the key of the entry of an item with this `id`
abbrev pub key_text : List ℕ → List ℕ
key_text = flat_map key_character

-- the start of an entry, up to the line end after its key
unfoldable pub head : GivenItem → List ℕ
head item = codes "@" ++ (written_type_name item.kind ++ (codes "{" ++ (key_text (chars item.id) ++ codes ",\n")))

-- the value of the field `options`, or nothing
abbrev pub options_of : Bool → List ℕ
options_of uses_prefix = if uses_prefix then codes "useprefix=true" else []

-- the start of an entry and its fields that aren't variables: `entrysubtype` and `options`
unfoldable pub beginning : Work → GivenItem → List ℕ
beginning work item =
    head item ++ (known_line (codes "entrysubtype") (subtype_of item.kind) ++ known_line (codes "options") (options_of work.uses_prefix))

-- the entry of an item; `work` has the properties that its fields depend on
unfoldable pub source_with : Work → GivenItem → List ℕ
source_with work item = beginning work item ++ (flat_map (given_lines work) item.fields ++ codes "}\n")

-- the entry of an item
unfoldable pub item_source : GivenItem → List ℕ
item_source item = source_with (work_for_item item) item

-- the entry of an item, after an empty line unless it is the first
abbrev pub next_entry : Bool → GivenItem → List ℕ
next_entry first item = if first then item_source item else codes "\n" ++ item_source item

-- the entries of items, with an empty line before each except a first one
abbrev pub entries_from : Bool → List GivenItem → List ℕ
entries_from first [] = []
entries_from first (item ∷ items) = next_entry first item ++ entries_from false items

-- the entries of items
abbrev pub items_source : List GivenItem → List ℕ
items_source = entries_from true
