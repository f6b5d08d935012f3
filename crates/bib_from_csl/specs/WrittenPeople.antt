-- Meaning: words of public contracts.
-- The values of name fields. A plain name is written in BibTeX's format. A name without parts is written in braces, except the word
-- `others`. Any other name is written in BibLaTeX's extended name format.
use Rattle.std.specs.Prelude.{ℕ, Bool, true, false, not, ◌&&◌, ◌||◌, ◌==◌, if◌then◌else◌, List, [], ◌∷◌, ◌++◌, length, codes, bytes_eq, encode_utf8_all}
use Rattle.std.specs.Char.{is_whitespace}
use Rattle.std.specs.List.{list_all, list_any, slice_split}
use Rattle.std.specs.Str.{chars}
use Rattle.unicode.specs.Binary.{is_lowercase}
use Rattle.bib_text.specs.Characters as char
use Rattle.bib_chunks.specs.declared.chunk.Chunk.TheVariants.{Normal, Verbatim}
use Rattle.bib_chunks.specs.Values.{Value, nowhere}
use Rattle.bib_chunks.specs.Written.{written_value}
use Rattle.bib_csl.specs.declared.item.Name.{Name}
use Rattle.bib_csl.specs.declared.item.Name.TheVariants.{Literal, Parts}
use Rattle.bib_csl.specs.declared.item.NameParts.{NameParts}
use Rattle.bib_from_csl.specs.Values.{divides_lists, tie, with_ties}

-- whether a character can be in a word of a name in BibTeX's format
abbrev pub may_stand_in_name : ℕ → Bool
may_stand_in_name c =
    if c == tie then true
    else not (is_whitespace c) && not ((c == char.comma) || ((c == char.equals) || (c == char.tilde)))

-- whether there is a first character, and it is a lowercase letter
abbrev pub begins_small : List ℕ → Bool
begins_small [] = false
begins_small (c ∷ cs) = is_lowercase c

-- whether a word begins with a lowercase letter
abbrev pub begins_with_small : List ℕ → Bool
begins_with_small word = begins_small (chars word)

-- whether a word can be in a name in BibTeX's format
abbrev pub is_plain_word : List ℕ → Bool
is_plain_word word = not (length word == 0) && (not (divides_lists word) && list_all may_stand_in_name (chars word))

-- the words of a text that single spaces separate
abbrev pub words_in : List ℕ → List (List ℕ)
words_in text = slice_split (λ b. b == char.space) text

-- whether a text consists of words for which `is_plain_word` holds, with single spaces between them
abbrev pub are_plain_words : List ℕ → Bool
are_plain_words text = list_all is_plain_word (words_in text)

-- whether a text is empty, or `are_plain_words` holds for it
abbrev pub is_nothing_or_words : List ℕ → Bool
is_nothing_or_words text = (length text == 0) || are_plain_words text

-- whether no word of a text begins with a lowercase letter
abbrev pub has_no_small_word : List ℕ → Bool
has_no_small_word text = not (list_any begins_with_small (words_in text))

-- whether all words of a text begin with a lowercase letter
abbrev pub has_small_words : List ℕ → Bool
has_small_words text = list_all begins_with_small (words_in text)

-- whether a particle is empty, or consists of plain words that each begin with a lowercase letter, as a prefix in BibTeX does
abbrev pub is_plain_particle : List ℕ → Bool
is_plain_particle particle = (length particle == 0) || (are_plain_words particle && has_small_words particle)

-- the particle of a name that the entry can write as its prefix; the flag says whether prefixes are part of family names in the entry
abbrev pub particle : Bool → NameParts → List ℕ
particle true p = p.non_dropping_particle
particle false p = p.dropping_particle

-- whether a name has a given name and can be written in BibTeX's format
unfoldable pub is_bibtex_name : Bool → NameParts → Bool
is_bibtex_name uses_prefix p =
    are_plain_words p.family && (has_no_small_word p.family && (are_plain_words p.given && (is_nothing_or_words p.suffix
    && (is_plain_particle (particle uses_prefix p) && (length (particle (not uses_prefix) p) == 0)))))

-- whether a name is only a family name that is one plain word
unfoldable pub is_one_word : NameParts → Bool
is_one_word p =
    is_plain_word p.family && ((length p.given == 0) && ((length p.suffix == 0)
    && ((length p.dropping_particle == 0) && (length p.non_dropping_particle == 0))))

-- a text and a separator, or nothing if the text is empty
abbrev pub with_separator : List ℕ → List ℕ → List ℕ
with_separator text separator = if length text == 0 then [] else text ++ separator

-- a name in BibTeX's format
unfoldable pub plain_text_of : Bool → NameParts → List ℕ
plain_text_of uses_prefix p =
    with_separator (particle uses_prefix p) (codes " ")
    ++ (with_separator p.family (codes ", ") ++ (with_separator p.suffix (codes ", ") ++ p.given))

-- a key and its value, or nothing if the value is empty
unfoldable pub keyed_unless_empty : List ℕ → List ℕ → Value
keyed_unless_empty key value = if length value == 0 then [] else nowhere (Normal key) ∷ nowhere (Verbatim value) ∷ []

-- the prefix of a name: the dropping particle, a space and the other particle, or only one of them
unfoldable pub whole_prefix : NameParts → List ℕ
whole_prefix p =
    if length p.non_dropping_particle == 0 then p.dropping_particle
    else with_separator p.dropping_particle (codes " ") ++ p.non_dropping_particle

-- `true` or `false` as the prefix is part of the family name or not, or nothing without a prefix
unfoldable pub prefix_flag : NameParts → List ℕ
prefix_flag p =
    if not (length p.non_dropping_particle == 0) then codes "true"
    else if not (length p.dropping_particle == 0) then codes "false"
    else []

-- the parts of a name except the family name, and the flag for its prefix; each has its key, and empty ones are left out
unfoldable pub extended_keys : NameParts → Value
extended_keys p =
    keyed_unless_empty (codes ", given=") p.given ++ (keyed_unless_empty (codes ", prefix=") (whole_prefix p)
    ++ (keyed_unless_empty (codes ", suffix=") p.suffix ++ keyed_unless_empty (codes ", useprefix=") (prefix_flag p)))

-- a name in the extended format
unfoldable pub extended_chunks : NameParts → Value
extended_chunks p = nowhere (Normal (codes "family=")) ∷ nowhere (Verbatim p.family) ∷ extended_keys p

-- a name without parts: in braces, except for the word `others`
abbrev pub literal_chunks : List ℕ → Value
literal_chunks text =
    if bytes_eq text (codes "others") then nowhere (Normal (codes "others")) ∷ [] else nowhere (Verbatim text) ∷ []

-- a name with parts
unfoldable pub parts_chunks : Bool → NameParts → Value
parts_chunks uses_prefix p =
    if is_one_word p then nowhere (Normal p.family) ∷ []
    else if is_bibtex_name uses_prefix p then nowhere (Normal (plain_text_of uses_prefix p)) ∷ []
    else extended_chunks p

-- the chunks of a name, literal or in parts
abbrev pub name_chunks : Bool → Name → Value
name_chunks uses_prefix (Literal text) = literal_chunks text
name_chunks uses_prefix (Parts p) = parts_chunks uses_prefix p

-- a name, after the word `and` unless it is the first
abbrev pub joined_name : Bool → Bool → Name → Value
joined_name uses_prefix first name =
    if first then name_chunks uses_prefix name else nowhere (Normal (codes " and ")) ∷ name_chunks uses_prefix name

-- names, each after the word `and`, except the first name if `first` is true
abbrev pub names_from : Bool → Bool → List Name → Value
names_from uses_prefix first [] = []
names_from uses_prefix first (name ∷ names) = joined_name uses_prefix first name ++ names_from uses_prefix false names

-- the names of a list
abbrev pub names_chunks : Bool → List Name → Value
names_chunks uses_prefix = names_from uses_prefix true

-- the value of a name field
unfoldable pub names_value : Bool → List Name → List ℕ
names_value uses_prefix names = with_ties (encode_utf8_all (written_value (names_chunks uses_prefix names) false))

-- whether a name has a prefix that is part of the family name
abbrev pub has_fixed_prefix : Name → Bool
has_fixed_prefix (Literal text) = false
has_fixed_prefix (Parts p) = not (length p.non_dropping_particle == 0)

-- whether one of these names has a prefix that is part of the family name
abbrev pub have_fixed_prefix : List Name → Bool
have_fixed_prefix names = list_any has_fixed_prefix names
