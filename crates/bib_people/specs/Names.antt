-- Meaning: words of public contracts.
-- Names of people, after "Tame the BeaST" by Nicolas Markey and, for names in the extended format, the BibLaTeX manual
-- on name parts.
use Rattle.std.specs.Prelude.{◌++◌, ℕ, ◌+◌, ◌-◌, Bool, false, not, ◌&&◌, ◌||◌, ◌==◌, if◌then◌else◌, List, [], ◌∷◌, length, map, take, drop, codes, encode_utf8_all, Option, Some, None, bytes_eq}
use Rattle.std.specs.List.{list_any, prefix_len, before_last, after_last}
use Rattle.std.specs.Option.{unwrap_or, option_map}
use Rattle.unicode.specs.Binary.{is_uppercase, is_lowercase}
use Rattle.std.specs.Str.{trim}
use Rattle.bib_chunks.specs.declared.chunk.Chunk.{Chunk}
use Rattle.bib_text.specs.declared.spanned.Spanned.{Spanned}
use Rattle.bib_chunks.specs.Styled.{text_of}
use Rattle.bib_chunks.specs.Formatted.{formatted_chars}
use Rattle.bib_chunks.specs.Cuts.{comma_list, cut_at}
use Rattle.bib_people.specs.declared.person.Person.{Person}
use Rattle.bib_people.specs.Letters.{Letter, letters, Word, words_of, text_of_words}
use Rattle.bib_text.specs.Characters as char

-- whether there is a first letter and it passes the test
abbrev pub first_passes : (Letter → Bool) → List Letter → Bool
first_passes test [] = false
first_passes test (l ∷ rest) = test l

-- whether a word is capital in a name without a comma: it begins with an uppercase or a verbatim letter
abbrev pub is_capital : Word → Bool
is_capital word = first_passes (λ l. l.is_verbatim || is_uppercase l.char) word.letters

-- whether a word is lower in a name without a comma: it is not capital
abbrev pub is_lower : Word → Bool
is_lower word = not (is_capital word)

-- whether a word before a comma is low: it begins with a lowercase or a verbatim letter
abbrev pub is_low : Word → Bool
is_low word = first_passes (λ l. l.is_verbatim || is_lowercase l.char) word.letters

-- the number of words before the first one that fails the test
abbrev pub leading : (Word → Bool) → List Word → ℕ
leading test words = prefix_len test words

-- the number of words up to the last one that passes the test, this one included
abbrev pub through_last : (Word → Bool) → List Word → ℕ
through_last test [] = 0
through_last test (word ∷ words) = if list_any test (word ∷ words) then 1 + through_last test words else 0

-- the number of words of the given name, and of the prefix after it; the other words are the family name
pub record Cuts : Type 0 where
  pub given : ℕ
  pub prefix : ℕ

-- the cuts of a name without a comma. The capital words at the start are the given name. If all words are capital, the last
-- one is the family name. Otherwise, if another capital word comes later, the prefix ends with the last lower word before
-- the last capital one. If no capital word comes later, the last word is the family name, and the other lower words are the
-- prefix.
unfoldable pub whole_name : List Word → Cuts
whole_name words =
    let given = leading is_capital words in
    let more = drop given words in
    let end = through_last is_capital more in
    if given == length words then record { given = length words - 1; prefix = 0 }
    else if end == 0 then record { given = given; prefix = length more - 1 }
    else record { given = given; prefix = through_last is_lower (take end more) }

-- the cuts of the words before a comma: the prefix ends with the last low word. If all words are low, the last one is
-- the family name.
unfoldable pub before_comma : List Word → Cuts
before_comma words =
    if leading is_low words == length words then record { given = 0; prefix = length words - 1 }
    else record { given = 0; prefix = through_last is_low words }

-- the text of the given name of a name with these cuts
abbrev pub given_text : Cuts → List Word → List ℕ
given_text cuts words = text_of_words (take cuts.given words)

-- the text of the prefix of a name with these cuts
abbrev pub prefix_text : Cuts → List Word → List ℕ
prefix_text cuts words = text_of_words (take cuts.prefix (drop cuts.given words))

-- the text of the family name of a name with these cuts
abbrev pub name_text : Cuts → List Word → List ℕ
name_text cuts words = text_of_words (drop cuts.prefix (drop cuts.given words))

-- the formatted text of chunks, in bytes, without the white space at its ends
abbrev pub trimmed_text : List (Spanned Chunk) → List ℕ
trimmed_text chunks = trim (encode_utf8_all (formatted_chars chunks))

-- a person with only the four parts of BibTeX
abbrev pub person : List ℕ → List ℕ → List ℕ → List ℕ → Person
person name given prefix suffix = record {
  name = name;
  given_name = given;
  prefix = prefix;
  suffix = suffix;
  id = None;
  prefix_initials = None;
  given_initials = None;
  use_prefix = None;
}

-- the person of a name without a comma that has these cuts
abbrev pub whole_person : Cuts → List Word → Person
whole_person cuts words = person (name_text cuts words) (given_text cuts words) (prefix_text cuts words) []

-- the person of the words of a name without a comma
abbrev pub person_of_words : List Word → Person
person_of_words words = whole_person (whole_name words) words

-- the person of a name without a comma
abbrev pub without_comma : List (Spanned Chunk) → Person
without_comma chunks = person_of_words (words_of (letters chunks))

-- whether a byte is a space
abbrev pub is_space_byte : ℕ → Bool
is_space_byte b = b == char.space

-- the person of a name whose given name is one chunk without text: the text before the comma is cut at its last space. Without a
-- space, all of it is the family name.
abbrev pub at_last_space : List ℕ → List ℕ → Person
at_last_space text suffix =
    if list_any is_space_byte text
    then person (trim (after_last is_space_byte text)) [] (trim (before_last is_space_byte text)) suffix
    else person (trim text) [] [] suffix

-- whether there is a single chunk and it formats to the empty text
abbrev pub formats_to_nothing : List (Spanned Chunk) → Bool
formats_to_nothing chunks = length chunks == 1 && length (formatted_chars chunks) == 0

-- the person of a name that has these cuts before its comma
abbrev pub cut_person : Cuts → List Word → List ℕ → List ℕ → Person
cut_person cuts words given suffix = person (name_text cuts words) given (prefix_text cuts words) suffix

-- the person of the words before a comma, the given name and the suffix
abbrev pub before_comma_person : List Word → List ℕ → List ℕ → Person
before_comma_person words given suffix = cut_person (before_comma words) words given suffix

-- the person of a name with a comma. `first` is the chunks before the first comma. `second` is the chunks of the given name:
-- those after the second comma if there is one, otherwise those after the first.
abbrev pub with_comma : List (Spanned Chunk) → List (Spanned Chunk) → List ℕ → Person
with_comma first second suffix =
    if formats_to_nothing second then at_last_space (encode_utf8_all (formatted_chars first)) suffix
    else before_comma_person (words_of (letters first)) (trimmed_text second) suffix

-- the person of a name with a comma. `first` is the chunks before the first comma, and `second` is the chunks after it. The
-- last argument is the cut of `second` at the next comma.
abbrev pub with_commas : List (Spanned Chunk) → List (Spanned Chunk) → Option (List (Spanned Chunk) × List (Spanned Chunk)) → Person
with_commas first second None = with_comma first second []
with_commas first second (Some cut) = with_comma first cut.1 (trimmed_text cut.0)

-- the person of a name, from its cut at the first comma
abbrev pub cut_by_commas : List (Spanned Chunk) → Option (List (Spanned Chunk) × List (Spanned Chunk)) → Person
cut_by_commas chunks None = without_comma chunks
cut_by_commas chunks (Some cut) = with_commas cut.0 cut.1 (cut_at cut.1 char.comma)

-- the person of a name that is cut by commas
abbrev pub by_commas : List (Spanned Chunk) → Person
by_commas chunks = cut_by_commas chunks (cut_at chunks char.comma)

-- names in the extended format: a comma list of `key=value`

-- a key and a value
abbrev pub KeyValue : Type 0
KeyValue = List ℕ × List ℕ

-- a key and a value, from the chunks and their cut at the equals sign; without an equals sign the value is empty
abbrev pub part_cut : List (Spanned Chunk) → Option (List (Spanned Chunk) × List (Spanned Chunk)) → KeyValue
part_cut chunks None = (trimmed_text chunks, [])
part_cut chunks (Some cut) = (trimmed_text cut.0, trimmed_text cut.1)

-- the key and the value of a part
abbrev pub key_value_of : List (Spanned Chunk) → KeyValue
key_value_of chunks = part_cut chunks (cut_at chunks char.equals)

-- the keys of a name with their values
abbrev pub parts_of : List (Spanned Chunk) → List KeyValue
parts_of chunks = map key_value_of (comma_list chunks)

-- the value of a key; `found` is the one that was found before, and the last one counts
abbrev pub value_after : Option (List ℕ) → List ℕ → List KeyValue → Option (List ℕ)
value_after found key [] = found
value_after found key (part ∷ parts) = value_after (if bytes_eq part.0 key then Some part.1 else found) key parts

-- the value of a key, the last one if the key occurs more than once
abbrev pub last_value : List ℕ → List KeyValue → Option (List ℕ)
last_value = value_after None

-- the person with these parts
unfoldable pub person_of_parts : List KeyValue → Person
person_of_parts parts = record {
  name = unwrap_or (last_value (codes "family") parts) [];
  given_name = unwrap_or (last_value (codes "given") parts) [];
  prefix = unwrap_or (last_value (codes "prefix") parts) [];
  suffix = unwrap_or (last_value (codes "suffix") parts) [];
  id = last_value (codes "id") parts;
  prefix_initials = last_value (codes "prefix-i") parts;
  given_initials = last_value (codes "given-i") parts;
  use_prefix = option_map (λ v. bytes_eq v (codes "true")) (last_value (codes "useprefix") parts);
}

-- the person of a name in the extended format
abbrev pub in_parts : List (Spanned Chunk) → Person
in_parts chunks = person_of_parts (parts_of chunks)

-- whether a chunk of any kind contains an equals sign
abbrev pub is_in_parts : List (Spanned Chunk) → Bool
is_in_parts chunks = list_any (λ c. list_any (λ b. b == char.equals) (text_of c.v)) chunks

-- the person that chunks name: in the extended format if a chunk contains an equals sign, otherwise cut by commas
unfoldable pub person_of : List (Spanned Chunk) → Person
person_of chunks = if is_in_parts chunks then in_parts chunks else by_commas chunks

-- the display form of a name

-- one space, or nothing if the text is empty
abbrev pub gap_beside : List ℕ → List ℕ
gap_beside text = if length text == 0 then [] else char.space ∷ []

-- given name, prefix, family name and suffix: a space comes after a given name or a prefix that isn't empty, and before
-- a suffix that isn't empty
abbrev pub shown_person : Person → List ℕ
shown_person p =
    p.given_name
    ++
    (gap_beside p.given_name
    ++ (p.prefix ++ (gap_beside p.prefix ++ (p.name ++ (gap_beside p.suffix ++ p.suffix)))))
