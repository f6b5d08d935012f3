-- Meaning: words of public contracts.
-- Repeated texts of fields, replaced by abbreviations. The name of an abbreviation is one that the file defines already, or a new one.
use Rattle.std.specs.Prelude.{◌≡◌, ◌==◌, ◌&&◌, ◌||◌, ℕ, ◌≤◌, ◌<◌, Bool, true, false, not, List, [], ◌∷◌, ◌++◌, Option, Some, None, bytes_eq, chars, codes, cond, count_by, encode_utf8_all, filter, if◌then◌else◌, is_some, length, map, max, nat_lt, slice_index_or, take}
use Rattle.std.specs.Char.{is_ascii_alphabetic, is_ascii_digit, is_whitespace, to_ascii_lowercase}
use Rattle.std.specs.Fmt.{decimal}
use Rattle.std.specs.List.{find, flat_map, list_any, slice_split}
use Rattle.std.specs.Option.{option_map, option_map_or}
use Rattle.std.specs.Str.{trim}
use Rattle.bib_tables.specs.Months.{month_of_abbreviation}
use Rattle.bib_text.specs.Braces.{IsParts}
use Rattle.bib_text.specs.Places.{place}
use Rattle.bib_syntax.specs.Grammar.{NoDigit, is_word}
use Rattle.bib_syntax.specs.Reading.{Piece, FieldReading, EntryReading, FileReading}
use Rattle.bib_syntax.specs.Reading.Piece.{literal, abbreviation}
use Rattle.bib_queries.specs.Balance.{IsBalanced}
use Rattle.edit_entries.specs.Changes.{file_changed, text_changed, IsReadPlaceless, NewValue}
use Rattle.edit_entries.specs.Documents.{CanBeName, Document, has_name, last_position, text_at}
use Rattle.edit_entries.specs.Edits.{edited}
use Rattle.edit_entries.specs.LineEnds.{line_end_of}
use Rattle.edit_strings.specs.Exchanged.{Exchange, exchanges}
use Rattle.edit_strings.specs.Expanded.{Index, elements}

-- the text of some pieces, if they are one literal
abbrev pub single_text : List Piece → Option (List ℕ)
single_text [] = None
single_text (abbreviation p ∷ rest) = None
single_text (literal p ∷ []) = Some p.text
single_text (literal p ∷ other ∷ rest) = None

-- ---- the texts

-- whether a field has one of these names, in any ASCII case
abbrev pub is_named_by : List (List ℕ) → FieldReading → Bool
is_named_by names f = list_any (λ name. has_name name f) names

-- the text of a field that has one of these names, if its value is one literal
abbrev pub named_text : List (List ℕ) → FieldReading → Option (List ℕ)
named_text names f = if is_named_by names f then single_text (elements f) else None

-- a list of the text, or an empty list if there is none
abbrev pub option_texts : Option (List ℕ) → List (List ℕ)
option_texts None = []
option_texts (Some text) = text ∷ []

-- the texts of the fields that have one of these names and are one literal
abbrev pub field_texts : List (List ℕ) → List FieldReading → List (List ℕ)
field_texts names fields = flat_map (λ f. option_texts (named_text names f)) fields

-- the texts of all fields of entries that have one of these names and whose value is one literal, in order
abbrev pub named_texts : List (List ℕ) → List EntryReading → List (List ℕ)
named_texts names entries = flat_map (λ e. field_texts names e.fields) entries

-- how often a text occurs in a list of texts
abbrev pub times_of : List ℕ → List (List ℕ) → ℕ
times_of text texts = count_by (λ t. bytes_eq t text) texts

-- ---- names

-- whether a name is the abbreviation of a month, in any ASCII case
abbrev pub is_month : List ℕ → Bool
is_month name = is_some (month_of_abbreviation name)

-- whether a name begins with an ASCII digit; in a value, a number would begin there
abbrev pub has_digit_first : List ℕ → Bool
has_digit_first [] = false
has_digit_first (b ∷ bs) = is_ascii_digit b

-- ---- the names of a file

-- the name of a piece as a list: empty for a literal
abbrev pub piece_names : Piece → List (List ℕ)
piece_names (literal p) = []
piece_names (abbreviation p) = p.text ∷ []

-- the names among some pieces
abbrev pub element_names : List Piece → List (List ℕ)
element_names pieces = flat_map piece_names pieces

-- the names that definitions define or use
abbrev pub definition_names : List FieldReading → List (List ℕ)
definition_names definitions = flat_map (λ f. f.name.text ∷ element_names (elements f)) definitions

-- the names that fields use
abbrev pub used_names : List FieldReading → List (List ℕ)
used_names fields = flat_map (λ f. element_names (elements f)) fields

-- the names that a file defines or uses
abbrev pub names_of_file : FileReading → List (List ℕ)
names_of_file says = definition_names says.abbreviations ++ flat_map (λ e. used_names e.fields) says.entries

-- whether a name is one of these, in any ASCII case: BibTeX doesn't distinguish names that differ only in case
abbrev pub is_one_in_any_case : List (List ℕ) → List ℕ → Bool
is_one_in_any_case names name = list_any (λ other. is_word other name) names

-- ---- definitions that can be reused

-- the byte offset of the first entry; 0 if there is none
abbrev pub first_entry_start : List EntryReading → ℕ
first_entry_start [] = 0
first_entry_start (e ∷ es) = e.start

-- whether a definition begins before a byte offset
abbrev pub is_before : ℕ → FieldReading → Bool
is_before at f = nat_lt f.name.start at

-- whether a name can be reused: it isn't a month's abbreviation, has no leading ASCII digit, and has exactly one definition in the
-- file, in any ASCII case
abbrev pub is_reusable_name : FileReading → List ℕ → Bool
is_reusable_name says name =
    not (is_month name) && not (has_digit_first name) && (count_by (has_name name) says.abbreviations == 1)

-- the text for which a definition can be reused: its value, if this is one literal. The definition must be before the first entry, and its
-- name reusable. BibTeX reads a file from top to bottom, so a definition after an entry doesn't count in this entry.
abbrev pub reusable_text : FileReading → FieldReading → Option (List ℕ)
reusable_text says f =
    cond (is_before (first_entry_start says.entries) f && is_reusable_name says f.name.text) (single_text (elements f)) None

-- whether a definition can be reused for a text
abbrev pub is_reusable : FileReading → List ℕ → FieldReading → Bool
is_reusable says text f = option_map_or (λ own. bytes_eq own text) (reusable_text says f) false

-- the name of the first definition that can be reused for a text, as it is written there
abbrev pub known_name : FileReading → List ℕ → Option (List ℕ)
known_name says text = option_map (λ f. f.name.text) (find (is_reusable says text) says.abbreviations)

-- ---- new names

-- the first ASCII letters of a word in lowercase, at most `count` of them
abbrev pub first_letters : ℕ → List ℕ → List ℕ
first_letters count word = encode_utf8_all (map to_ascii_lowercase (take count (filter is_ascii_alphabetic word)))

-- the first ASCII letter of each word of a text, in lowercase; a word without such a letter adds nothing
abbrev pub initials : List ℕ → List ℕ
initials text = flat_map (first_letters 1) (slice_split is_whitespace (chars text))

-- the ASCII letters from which the name of a text is made: the first 8 of its only word, or the first of each word
abbrev pub name_letters : List ℕ → List ℕ
name_letters text = cond (list_any is_whitespace (chars (trim text))) (initials text) (first_letters 8 (chars text))

-- these letters, or `s` if there are none
abbrev pub letters_or_s : List ℕ → List ℕ
letters_or_s [] = codes "s"
letters_or_s (b ∷ bs) = b ∷ bs

-- the digits of a number after a name: none if it is 1
abbrev pub number_after : ℕ → List ℕ
number_after number = cond (number == 1) [] (decimal number)

-- the name of a text with a number
abbrev pub numbered_name : List ℕ → ℕ → List ℕ
numbered_name text number = letters_or_s (name_letters text) ++ number_after number

-- whether a name is new: not a month's abbreviation, and in any ASCII case neither a name of the file nor one of the earlier names
abbrev pub is_new_name : FileReading → List (List ℕ) → List ℕ → Bool
is_new_name says earlier name =
    not (is_month name || (is_one_in_any_case earlier name || is_one_in_any_case (names_of_file says) name))

-- the new name of a text: its name with the least number that makes it new. It is an identifier without a leading digit.
pub record IsFirstNewName (says : FileReading) (earlier : List (List ℕ)) (text name : List ℕ) : Type 0 where
  pub can : CanBeName name
  pub no_digit : NoDigit (place name 0)
  pub number : ℕ
  pub some : 1 ≤ number
  pub is : name ≡ numbered_name text number
  pub new : is_new_name says earlier name ≡ true
  pub first : (n : ℕ) → 1 ≤ n → n < number → is_new_name says earlier (numbered_name text n) ≡ false

-- the names of some texts: a name that can be reused, or else a new name, given the names of the texts before
pub data AreNames (says : FileReading) : List (List ℕ) → List (List ℕ) → Type 0 where
  none : AreNames says [] []
  known : {texts names : List (List ℕ)} (text name : List ℕ) → AreNames says texts names → known_name says text ≡ Some name
      → AreNames says (texts ++ text ∷ []) (names ++ name ∷ [])
  new : {texts names : List (List ℕ)} (text name : List ℕ) → AreNames says texts names → known_name says text ≡ None
      → IsFirstNewName says names text name → AreNames says (texts ++ text ∷ []) (names ++ name ∷ [])

-- ---- the texts to collect

-- whether a text has more characters than its new name without a number
abbrev pub is_longer_than_name : List ℕ → Bool
is_longer_than_name text = nat_lt (length (letters_or_s (name_letters text))) (length (chars text))

-- a text can be collected: it occurs at least `least` times in a list of texts. It has a known name, or is longer than its new name
-- without a number. It can be written between braces, also for BibTeX, which counts a brace after a backslash.
pub record CanBeCollected (known : List ℕ → Option (List ℕ)) (least : ℕ) (texts : List (List ℕ)) (text : List ℕ) : Type 0 where
  pub often : least ≤ times_of text texts
  pub shortened : (is_some (known text) || is_longer_than_name text) ≡ true
  pub braced : IsParts text
  pub balanced : IsBalanced text

-- these texts, each once, in the order of their first occurrences
abbrev pub distinct : List (List ℕ) → List (List ℕ)
distinct [] = []
distinct (text ∷ texts) = text ∷ filter (λ other. not (bytes_eq other text)) (distinct texts)

-- the second list has those texts of the first that meet a condition, in their order
pub data AreThoseThat (Meets : List ℕ → Type 0) : List (List ℕ) → List (List ℕ) → Type 0 where
  none : AreThoseThat Meets [] []
  kept : {texts found : List (List ℕ)} (text : List ℕ) → Meets text → AreThoseThat Meets texts found
      → AreThoseThat Meets (text ∷ texts) (text ∷ found)
  left : {texts found : List (List ℕ)} (text : List ℕ) → (Meets text → ⊥) → AreThoseThat Meets texts found
      → AreThoseThat Meets (text ∷ texts) found

-- the texts to collect from fields with these names: the distinct texts that can be collected, in the order of their first occurrences. A
-- text for which a definition can be reused has the name of this definition.
abbrev pub AreCollectedTexts : List (List ℕ) → ℕ → FileReading → List (List ℕ) → Type 0
AreCollectedTexts fields least says texts =
    let all = named_texts fields says.entries in
    AreThoseThat (CanBeCollected (known_name says) least all) (distinct all) texts

-- ---- the new values

-- the last index of a text in a list of texts, if it is one of them
abbrev pub text_index : List (List ℕ) → Index
text_index texts text = last_position (λ t. bytes_eq t text) texts

-- a new value that is only a name
abbrev pub name_value : List ℕ → NewValue
name_value name = record { bytes = name; pieces = abbreviation (text_at 0 name) ∷ [] }

-- the name at the index of a text, as a new value, if there is a text and it has an index
abbrev pub text_value : Index → List (List ℕ) → Option (List ℕ) → Option NewValue
text_value index names None = None
text_value index names (Some text) = option_map (λ i. name_value (slice_index_or names i [])) (index text)

-- the replacement of each value that is one of these texts by the name at the index of the text. The field must have one of the names
-- `fields`
abbrev pub collection : List (List ℕ) → List (List ℕ) → List (List ℕ) → Exchange
collection fields texts names f = text_value (text_index texts) names (named_text fields f)

-- ---- the new definitions

-- the line that defines a name as a text
abbrev pub string_line : List ℕ → List ℕ → List ℕ → List ℕ
string_line line_end name text = codes "@string{" ++ (name ++ (codes " = {" ++ (text ++ (codes "}}" ++ line_end))))

-- the lines that define each name as the text at the same index, except for texts of which the file has a definition to reuse
abbrev pub definition_lines : FileReading → List ℕ → List (List ℕ) → List (List ℕ) → List ℕ
definition_lines says line_end [] texts = []
definition_lines says line_end (name ∷ names) [] = []
definition_lines says line_end (name ∷ names) (text ∷ texts) =
    cond (is_some (known_name says text)) [] (string_line line_end name text) ++ definition_lines says line_end names texts

-- the definition of a name as a text, except for spans
abbrev pub line_reading : List ℕ → List ℕ → FieldReading
line_reading name text =
    record { name = text_at 0 name; value = record { pieces = literal (text_at 0 text) ∷ []; start = 0; end = 0 } }

-- the definitions that the lines of `definition_lines` parse to, except for spans
abbrev pub line_readings : FileReading → List (List ℕ) → List (List ℕ) → List FieldReading
line_readings says [] texts = []
line_readings says (name ∷ names) [] = []
line_readings says (name ∷ names) (text ∷ texts) =
    cond (is_some (known_name says text)) [] (line_reading name text ∷ []) ++ line_readings says names texts

-- a text with these lines at the byte offset of a document's first entry, or at its start if there is no entry
abbrev pub with_lines : Document → List ℕ → List ℕ → List ℕ
with_lines d lines text =
    edited (record { start = first_entry_start d.says.entries; end = first_entry_start d.says.entries; bytes = lines }) text

-- the reading of a file with more definitions: between those before a byte offset and the others
abbrev pub with_definitions : ℕ → List FieldReading → FileReading → FileReading
with_definitions at definitions says = record says {
  abbreviations =
      filter (is_before at) says.abbreviations ++ (definitions ++ filter (λ f. not (is_before at f)) says.abbreviations);
}

-- a text is that of a document with the texts to collect from fields with these names replaced by abbreviations. A `least` of 0 or 1 counts
-- as 2. The lines that define new names are directly before the first entry. The text parses to the reading with these replacements and
-- definitions, except for byte offsets.
pub record AreMadeAbbreviations (d : Document) (fields : List (List ℕ)) (least : ℕ) (text : List ℕ) : Type 0 where
  pub texts : List (List ℕ)
  pub names : List (List ℕ)
  pub chosen : AreCollectedTexts fields (max least 2) d.says texts
  pub named : AreNames d.says texts names
  pub is : text
      ≡ with_lines d (definition_lines d.says (line_end_of d.text) names texts) (text_changed (exchanges (collection fields texts names)) d)
  pub read :
      IsReadPlaceless
      (with_definitions (first_entry_start d.says.entries) (line_readings d.says names texts)
      (file_changed (exchanges (collection fields texts names)) d.says)) text
