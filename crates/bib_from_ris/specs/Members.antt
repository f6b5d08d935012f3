-- Meaning: words of public contracts.
-- The members of the item of a record. Each line with a value is in the content of a variable, is the text of the key, or has a member
-- without content.
use Rattle.std.specs.Prelude.{ℕ, Bool, false, true, not, ◌==◌, ◌&&◌, ◌||◌, if◌then◌else◌, List, [], ◌∷◌, ◌++◌, length, codes, bytes_eq, encode_utf8_all, Option, Some, None}
use Rattle.std.specs.Char.{is_ascii_digit}
use Rattle.std.specs.List.{flat_map, list_all, list_any, slice_split}
use Rattle.std.specs.Option.{option_map_or}
use Rattle.bib_text.specs.Characters as char
use Rattle.bib_csl.specs.declared.item.Content.TheVariants as content
use Rattle.bib_csl.specs.declared.item.ItemDate.{ItemDate}
use Rattle.bib_csl.specs.declared.item.Name.{Name}
use Rattle.bib_csl.specs.SentenceItems.{is_english_tag}
use Rattle.bib_from_csl.specs.declared.given.Given.{Given}
use Rattle.bib_from_csl.specs.OwnTitles.{is_own_title, protected_title}
use Rattle.bib_from_ris.specs.Lines.{right_of_hyphen, left_of_hyphen}
use Rattle.bib_from_ris.specs.RisDates.{has_whole_date, is_year_of, ris_date}
use Rattle.bib_from_ris.specs.RisNames.{ris_name}
use Rattle.bib_from_ris.specs.RisTypes.{known_item_type}
use Rattle.bib_from_ris.specs.Tags.{is_name_list, variable_names}
use Rattle.bib_from_ris.specs.Variables.{variable_text}
use Rattle.bib_from_ris.specs.declared.variables.VariableLine.{VariableLine}

-- ---- members

-- a member without content for a line that no variable contains
abbrev pub member_without_content : List ℕ → Given
member_without_content tag = record { name = tag; content = None; is_whole = false }

-- the member of a variable with this text
abbrev pub text_given : List ℕ → List ℕ → Given
text_given name text = record { name = name; content = Some (content.Text text); is_whole = true }

-- a member without content for a line of a variable, if its value isn't this text
abbrev pub other_line : List ℕ → List ℕ → VariableLine → List Given
other_line name text line =
    if bytes_eq line.variable name && not (bytes_eq line.value text) then member_without_content line.tag ∷ [] else []

-- the members of the lines of a variable that don't have its text
abbrev pub other_members_than : List ℕ → Option (List ℕ) → List VariableLine → List Given
other_members_than name None lines = []
other_members_than name (Some text) lines = flat_map (other_line name text) lines

-- the members of the lines of a variable that don't have its text
unfoldable pub other_members : List ℕ → List VariableLine → List Given
other_members name lines = other_members_than name (variable_text name lines) lines

-- the member of a variable, if it has a text
abbrev pub if_text : List ℕ → Option (List ℕ) → List Given
if_text name None = []
if_text name (Some text) = text_given name text ∷ []

-- the members of a variable with one text
unfoldable pub text_members : List ℕ → List VariableLine → List Given
text_members name lines = if_text name (variable_text name lines) ++ other_members name lines

-- ---- titles

-- whether a record has no language, or an English one
abbrev pub is_english_record : List VariableLine → Bool
is_english_record lines = option_map_or is_english_tag (variable_text (codes "language") lines) true

-- the text of a title; in English, its `protected_title`, as in an item
abbrev pub record_title : Bool → List ℕ → List ℕ
record_title is_in_english text = if is_in_english then protected_title text else text

-- the member of a title, if it has a text
abbrev pub if_title : Bool → List ℕ → Option (List ℕ) → List Given
if_title is_in_english name None = []
if_title is_in_english name (Some text) = text_given name (record_title is_in_english text) ∷ []

-- the members of a title
unfoldable pub title_members : List ℕ → List VariableLine → List Given
title_members name lines = if_title (is_english_record lines) name (variable_text name lines) ++ other_members name lines

-- ---- names, dates and pages

-- the name in a line, if the line has this variable
abbrev pub name_in : List ℕ → VariableLine → List Name
name_in name line = if bytes_eq line.variable name then ris_name line.value ∷ [] else []

-- the member of a variable with these names, if there are any
abbrev pub member_of_names : List ℕ → List Name → List Given
member_of_names name names =
    if length names == 0 then [] else record { name = name; content = Some (content.Names names); is_whole = true } ∷ []

-- the member of a variable with the names of all its lines, if there are any
unfoldable pub names_members : List ℕ → List VariableLine → List Given
names_members name lines = member_of_names name (flat_map (name_in name) lines)

-- a text and the text of a line with a separator between them, or only the latter if the former is empty
abbrev pub joined_with : List ℕ → List ℕ → List ℕ → List ℕ
joined_with separator before text = if length before == 0 then text else before ++ (separator ++ text)

-- a text and the texts of the lines of a variable, with a separator between them
abbrev pub joined_after : List ℕ → List ℕ → List ℕ → List VariableLine → List ℕ
joined_after name separator before [] = before
joined_after name separator before (line ∷ rest) =
    if bytes_eq line.variable name then joined_after name separator (joined_with separator before line.value) rest
    else joined_after name separator before rest

-- the member of a variable with this text, unless the text is empty
abbrev pub joined_given : List ℕ → List ℕ → List Given
joined_given name text = if length text == 0 then [] else text_given name text ∷ []

-- the member of a variable with the texts of all its lines, unless they are empty
unfoldable pub joined_members : List ℕ → List ℕ → List VariableLine → List Given
joined_members name separator lines = joined_given name (joined_after name separator [] lines)

-- the member of a variable with this date, or without content if there is no date
abbrev pub dated_member : List ℕ → Option ItemDate → Bool → Given
dated_member name None is_whole = member_without_content name
dated_member name (Some date) is_whole = record { name = name; content = Some (content.Date date); is_whole = is_whole }

-- the member of a variable with the date of a text
unfoldable pub member_of_date : List ℕ → List ℕ → Given
member_of_date name text = dated_member name (ris_date text) (has_whole_date text)

-- the member of a variable with the date of a text, if there is one
abbrev pub if_date : List ℕ → Option (List ℕ) → List Given
if_date name None = []
if_date name (Some text) = member_of_date name text ∷ []

-- the members of the date of access
unfoldable pub access_members : List VariableLine → List Given
access_members lines = if_date (codes "accessed") (variable_text (codes "accessed") lines) ++ other_members (codes "accessed") lines

-- the members of the date of publication with the texts of the tags PY, or else Y1, and DA: if PY is the year of DA, the date is that of
-- DA; if it is another date, DA is lost
abbrev pub year_or_day : List ℕ → List ℕ → List Given
year_or_day year day =
    if bytes_eq year day || is_year_of year day then member_of_date (codes "issued") day ∷ []
    else member_of_date (codes "issued") year ∷ member_without_content (codes "DA") ∷ []

-- the members of the date of publication with the texts of the tags PY or Y1, and DA, if there are any
abbrev pub issued_given : Option (List ℕ) → Option (List ℕ) → List Given
issued_given year None = if_date (codes "issued") year
issued_given None (Some day) = member_of_date (codes "issued") day ∷ []
issued_given (Some year) (Some day) = year_or_day year day

-- the members of the date of publication
unfoldable pub issued_members : List VariableLine → List Given
issued_members lines =
    issued_given (variable_text (codes "issued") lines) (variable_text (codes "day") lines)
    ++ (other_members (codes "issued") lines ++ other_members (codes "day") lines)

-- the first and the last page of a range, or one page
unfoldable pub page_range : List ℕ → List ℕ → List ℕ
page_range first last = if bytes_eq first last then first else first ++ (encode_utf8_all (codes "–") ++ last)

-- whether a text consists of ASCII digits and isn't empty
abbrev pub are_some_digits : List ℕ → Bool
are_some_digits text = not (length text == 0) && list_all is_ascii_digit text

-- the text of pages under one tag: two numbers with a hyphen between them are a range, and any other text is unchanged
unfoldable pub hyphened_pages : List ℕ → List ℕ
hyphened_pages text =
    if are_some_digits (left_of_hyphen text) && are_some_digits (right_of_hyphen text)
    then page_range (left_of_hyphen text) (right_of_hyphen text)
    else text

-- the member of the pages with the texts of the tags SP and EP, if there are any
abbrev pub pages_given : Option (List ℕ) → Option (List ℕ) → List Given
pages_given None None = []
pages_given (Some first) None = text_given (codes "page") (hyphened_pages first) ∷ []
pages_given None (Some last) = text_given (codes "page") (hyphened_pages last) ∷ []
pages_given (Some first) (Some last) = text_given (codes "page") (page_range first last) ∷ []

-- the members of the pages
unfoldable pub pages_members : List VariableLine → List Given
pages_members lines =
    pages_given (variable_text (codes "page") lines) (variable_text (codes "last-page") lines)
    ++ (other_members (codes "page") lines ++ other_members (codes "last-page") lines)

-- the members of a variable. `day` and `last-page` have none; those of `issued` and `page` include their lines. The text of `id` is the
-- key.
unfoldable pub members_of : List VariableLine → List ℕ → List Given
members_of lines name =
    if is_name_list name then names_members name lines
    else if is_own_title name then title_members name lines
    else if bytes_eq name (codes "issued") then issued_members lines
    else if bytes_eq name (codes "accessed") then access_members lines
    else if bytes_eq name (codes "page") then pages_members lines
    else if bytes_eq name (codes "keyword") then joined_members name (codes ", ") lines
    else if bytes_eq name (codes "note") then joined_members name (codes ". ") lines
    else if bytes_eq name (codes "id") then other_members name lines
    else if bytes_eq name (codes "day") then []
    else if bytes_eq name (codes "last-page") then []
    else text_members name lines

-- ---- all members of a record

-- the names of the variables
abbrev pub variables : List (List ℕ)
variables = slice_split (λ b. b == char.space) variable_names

-- whether a record can have the variable with a name
abbrev pub is_variable : List ℕ → Bool
is_variable name = list_any (bytes_eq name) variables

-- a member without content for a line that has none of the variables
abbrev pub unknown_line : VariableLine → List Given
unknown_line line = if is_variable line.variable then [] else member_without_content line.tag ∷ []

-- a member without content for a type that is unknown
unfoldable pub type_member : List ℕ → List Given
type_member kind = if length (known_item_type kind) == 0 then member_without_content (codes "TY") ∷ [] else []

-- the members of a record of this type: that of an unknown type, those of each variable, and those of the lines that have no variable
unfoldable pub members : List ℕ → List VariableLine → List Given
members kind lines = type_member kind ++ (flat_map (members_of lines) variables ++ flat_map unknown_line lines)
