-- Meaning: words of public contracts.
-- The items in a text of CSL-JSON, or the first fault of the text.
use Rattle.std.specs.Prelude.{ℕ, ◌+◌, Bool, true, false, ◌==◌, ◌&&◌, ◌||◌, if◌then◌else◌, List, [], ◌∷◌, ◌++◌, codes, bytes_eq, encode_utf8_all, Option, Some, None, is_some}
use Rattle.std.specs.Char.{is_ascii_digit}
use Rattle.std.specs.List.{list_all, before_first, after_first}
use Rattle.std.specs.Option.{option_map_or}
use Rattle.std.specs.Str.{chars}
use Rattle.json.specs.Json.{Json, document}
use Rattle.bib_text.specs.Characters as char
use Rattle.bib_dates.specs.Dates.{holds as has_byte}
use Rattle.bib_csl.specs.declared.item.Content.{Content}
use Rattle.bib_csl.specs.declared.item.Content.TheVariants as content
use Rattle.bib_csl.specs.declared.item.ItemDate.{ItemDate}
use Rattle.bib_csl.specs.declared.variables.Form.{Form}
use Rattle.bib_csl.specs.declared.variables.Form.TheVariants as form
use Rattle.bib_csl.specs.SentenceItems.{is_english_tag}
use Rattle.bib_from_csl.specs.declared.given.Given.{Given}
use Rattle.bib_from_csl.specs.declared.reading.Fault.TheVariants as fault
use Rattle.bib_from_csl.specs.declared.reading.ItemReading.{ItemReading}
use Rattle.bib_from_csl.specs.declared.reading.ItemReading.TheVariants.{Says, Unfit}
use Rattle.bib_from_csl.specs.declared.reading.ItemsReading.{ItemsReading}
use Rattle.bib_from_csl.specs.declared.reading.ItemsReading.TheVariants.{Are, Refused}
use Rattle.bib_from_csl.specs.GivenDates.{date_given, is_whole_date}
use Rattle.bib_from_csl.specs.GivenNames.{are_objects, are_whole_names, given_names}
use Rattle.bib_from_csl.specs.Objects.{array_elements, object_members, string_under, text_in, text_under}
use Rattle.bib_from_csl.specs.OwnTitles.{is_own_title, protected_title}
use Rattle.bib_from_csl.specs.Values.{replaced}
use Rattle.bib_from_csl.specs.Variables.{form_of}

-- whether a character occurs in page numbers
abbrev pub is_of_pages : ℕ → Bool
is_of_pages c = is_ascii_digit c || ((c == char.hyphen) || ((c == char.en_dash) || ((c == char.comma) || (c == char.space))))

-- whether a text consists of ASCII digits, hyphens, en dashes, commas and spaces, as page numbers do
abbrev pub are_numbers : List ℕ → Bool
are_numbers text = list_all is_of_pages (chars text)

-- whether the hyphens of a text are written as en dashes: it is the variable `page`, and consists of page numbers
unfoldable pub has_dashes : List ℕ → List ℕ → Bool
has_dashes name text = bytes_eq name (codes "page") && are_numbers text

-- a text with an en dash for each hyphen
unfoldable pub dashed_text : List ℕ → List ℕ
dashed_text text = replaced char.hyphen (encode_utf8_all (codes "–")) (chars text)

-- the text before the first hyphen if it equals the text after that, such as `115` for `115-115`; another text unchanged
unfoldable pub single_page : List ℕ → List ℕ
single_page text =
    if has_byte char.hyphen text
    && bytes_eq (before_first (λ b. b == char.hyphen) text) (after_first (λ b. b == char.hyphen) text)
    then before_first (λ b. b == char.hyphen) text
    else text

-- the text of a variable; page numbers are replaced by their `single_page`, with an en dash for each hyphen. If the flag says so, a title
-- is replaced by its `protected_title`
unfoldable pub content_text : Bool → List ℕ → List ℕ → List ℕ
content_text keeps_case name text =
    if has_dashes name text then dashed_text (single_page text)
    else if keeps_case && is_own_title name then protected_title text
    else text

-- a member with this content
abbrev pub member_with : List ℕ → Option Content → Bool → Option Given
member_with name content is_whole = Some (record { name = name; content = content; is_whole = is_whole })

-- a variable of names; `None` if the value has another form
unfoldable pub names_member : List ℕ → Json → Option Given
names_member name j = if are_objects j then member_with name (Some (content.Names (given_names j))) (are_whole_names j) else None

-- a variable of this date, or without a content
abbrev pub of_date : List ℕ → Option ItemDate → Bool → Option Given
of_date name (Some date) is_whole = member_with name (Some (content.Date date)) is_whole
of_date name None is_whole = member_with name None is_whole

-- a variable of a date; `None` if the value has another form
unfoldable pub date_member : List ℕ → Json → Option Given
date_member name j = if is_some (object_members j) then of_date name (date_given j) (is_whole_date j) else None

-- a variable of this text, if there is one
abbrev pub of_text : Bool → List ℕ → Option (List ℕ) → Option Given
of_text keeps_case name None = None
of_text keeps_case name (Some text) = member_with name (Some (content.Text (content_text keeps_case name text))) true

-- the text of an element of an array, after a comma and a space unless it is the first
abbrev pub next_part : Bool → List ℕ → List ℕ
next_part first text = if first then text else codes ", " ++ text

-- the text of an element before those of others; `None` if one of them is neither a text nor a number
abbrev pub before_parts : Bool → Option (List ℕ) → Option (List ℕ) → Option (List ℕ)
before_parts first None rest = None
before_parts first (Some text) None = None
before_parts first (Some text) (Some rest) = Some (next_part first text ++ rest)

-- the texts of elements with a comma and a space before each, but not before a first one; `None` if one is neither a text nor a number
abbrev pub joined_from : Bool → List Json → Option (List ℕ)
joined_from first [] = Some []
joined_from first (j ∷ js) = before_parts first (text_in j) (joined_from false js)

-- a text or a number, or the texts of an array with a comma and a space between them, as in the `ISSN` of items from doi.org
abbrev pub text_or_texts : Json → Option (List ℕ)
text_or_texts j = option_map_or (joined_from true) (array_elements j) (text_in j)

-- a variable of a text; `None` if the value has another form
unfoldable pub text_member : Bool → List ℕ → Json → Option Given
text_member keeps_case name j = of_text keeps_case name (text_or_texts j)

-- a member whose variable has this form, or an unknown one; `None` if the value doesn't have this form
abbrev pub member_in : Option Form → Bool → List ℕ → Json → Option Given
member_in None keeps_case name j = member_with name None false
member_in (Some form.Names) keeps_case name j = names_member name j
member_in (Some form.Date) keeps_case name j = date_member name j
member_in (Some other) keeps_case name j = text_member keeps_case name j

-- a member; `None` if it doesn't have the form of its variable
unfoldable pub member_of : Bool → List ℕ → Json → Option Given
member_of keeps_case name j = member_in (form_of name) keeps_case name j

-- whether a value is a text or a number that is written so
abbrev pub has_text : List ℕ → Json → Bool
has_text text j = option_map_or (λ found. bytes_eq found text) (text_in j) false

-- whether a member is `type`, or `citation-key` or `id` with this text
abbrev pub is_head : List ℕ → List ℕ → Json → Bool
is_head id name j =
    if bytes_eq name (codes "citation-key") || bytes_eq name (codes "id") then has_text id j else bytes_eq name (codes "type")

-- a member before others, unless one of them has a wrong form
abbrev pub before_fields : Option Given → Option (List Given) → Option (List Given)
before_fields None rest = None
before_fields (Some field) None = None
before_fields (Some field) (Some fields) = Some (field ∷ fields)

-- the members except `type`, and except `citation-key` and `id` with this text; `None` if one of them has a wrong form
abbrev pub members_read : Bool → List ℕ → List (List ℕ × Json) → Option (List Given)
members_read keeps_case id [] = Some []
members_read keeps_case id (m ∷ ms) =
    if is_head id m.0 m.1 then members_read keeps_case id ms
    else before_fields (member_of keeps_case m.0 m.1) (members_read keeps_case id ms)

-- the item whose key comes from the member with this name and this text, with this type and these members, unless one of them has a wrong
-- form
abbrev pub item_with : List ℕ → List ℕ → List ℕ → Option (List Given) → ItemReading
item_with name id kind None = Unfit fault.WrongForm
item_with name id kind (Some fields) = Says (record { key_member = name; id = id; kind = kind; fields = fields })

-- the item whose key comes from the member with this name and this text, with this type and the members of this object
abbrev pub item_of_members : Bool → List ℕ → List ℕ → List ℕ → List (List ℕ × Json) → ItemReading
item_of_members keeps_case name id kind ms = item_with name id kind (members_read keeps_case id ms)

-- whether an object has no member `language` that is a text or a number, or an English one
abbrev pub is_english : Json → Bool
is_english j = option_map_or is_english_tag (text_under (codes "language") j) true

-- the item of an object with these members; the last two arguments are the text of the member with this name and the type
abbrev pub item_of_parts : Bool → List (List ℕ × Json) → List ℕ → Option (List ℕ) → Option (List ℕ) → ItemReading
item_of_parts keeps_case ms name None kind = Unfit fault.NoId
item_of_parts keeps_case ms name (Some id) None = Unfit fault.NoType
item_of_parts keeps_case ms name (Some id) (Some kind) = item_of_members keeps_case name id kind ms

-- the name of the first of the members `citation-key`, `id` and `DOI` that is a text or a number
abbrev pub key_member : Json → Option (List ℕ)
key_member j =
    if is_some (text_under (codes "citation-key") j) then Some (codes "citation-key")
    else if is_some (text_under (codes "id") j) then Some (codes "id")
    else if is_some (text_under (codes "DOI") j) then Some (codes "DOI")
    else None

-- the item of an object with these members, whose key comes from the member with this name
abbrev pub item_keyed : Json → List (List ℕ × Json) → Option (List ℕ) → ItemReading
item_keyed j ms None = Unfit fault.NoId
item_keyed j ms (Some name) = item_of_parts (is_english j) ms name (text_under name j) (string_under (codes "type") j)

-- the item of an object with these members, or the fault of a value that is none
abbrev pub item_of_object : Json → Option (List (List ℕ × Json)) → ItemReading
item_of_object j None = Unfit fault.NotAnObject
item_of_object j (Some ms) = item_keyed j ms (key_member j)

-- the item of an element, or the fault
abbrev pub item_in : Json → ItemReading
item_in j = item_of_object j (object_members j)

-- an item, by the index of its element, before others; the first fault counts
abbrev pub before_items : ℕ → ItemReading → ItemsReading → ItemsReading
before_items index (Unfit fault) rest = Refused index fault
before_items index (Says item) (Are items) = Are (item ∷ items)
before_items index (Says item) (Refused other fault) = Refused other fault

-- the items of these elements, or the first fault; the first element has this index
abbrev pub items_read_from : ℕ → List Json → ItemsReading
items_read_from index [] = Are []
items_read_from index (j ∷ js) = before_items index (item_in j) (items_read_from (index + 1) js)

-- an item as the only one, or the fault; a value that is no object has another fault, since it is no array either
abbrev pub as_only : ItemReading → ItemsReading
as_only (Says item) = Are (item ∷ [])
as_only (Unfit fault.NotAnObject) = Refused 0 fault.NotAnArray
as_only (Unfit other) = Refused 0 other

-- the item of an object as the only item, or the fault
abbrev pub only_item : Json → ItemsReading
only_item j = as_only (item_in j)

-- the items of a JSON value, or the first fault: an array of items, or one item
abbrev pub items_in : Json → ItemsReading
items_in j = option_map_or (items_read_from 0) (array_elements j) (only_item j)

-- the items in a text of CSL-JSON, or the first fault
unfoldable pub items_read : List ℕ → ItemsReading
items_read text = option_map_or items_in (document text) (Refused 0 fault.NotJson)
