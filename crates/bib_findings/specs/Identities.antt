-- Meaning: words of public contracts.
-- Entries are likely the same work if they have the same DOI, the same ISBN of whole books, or the same title, people and year, and
-- aren't told apart. A whole book and a part of a book are different works. Case and braces don't count. White space only separates
-- words, and doesn't count in a DOI or an ISBN. The hyphens of an ISBN and the link or the scheme before a DOI don't count either.
use Rattle.std.specs.Prelude.{ℕ, Bool, not, ◌==◌, ◌&&◌, ◌||◌, List, [], ◌∷◌, ◌++◌, codes, chars, length, take, drop, filter, bytes_eq, eqb, nat_eq, encode_utf8_all, Option, Some, None, if◌then◌else◌}
use Rattle.std.specs.Char.{is_whitespace}
use Rattle.std.specs.List.{ends_with, flat_map, list_all, list_any, slice_split, starts_with, take_while}
use Rattle.std.specs.StrCase.Lower.{str_to_lowercase}
use Rattle.bib_text.specs.Characters as char
use Rattle.bib_tables.specs.Requirements.{Names, fields}
use Rattle.bib_syntax.specs.Reading.{EntryReading, FieldReading, Piece}
use Rattle.bib_syntax.specs.Reading.Piece.{literal}
use Rattle.bib_findings.specs.CheckDigits.{is_digit_or_x, is_isbn}
use Rattle.bib_findings.specs.Entries.{last_named}
use Rattle.bib_findings.specs.Nearest.{is_known_name}

-- the text of a value that is one literal (in braces, in quotes, or a number); any other value gives the empty text
abbrev pub literal_text : List Piece → List ℕ
literal_text (literal p ∷ []) = p.text
literal_text _ = []

-- the text of a field whose value is one literal; the empty text for any other value, and if there is no field
abbrev pub field_literal : Option FieldReading → List ℕ
field_literal None = []
field_literal (Some f) = literal_text f.value.pieces

-- the text of the last field of this name of an entry, if its value is one literal, and otherwise the empty text
abbrev pub own_literal : EntryReading → List ℕ → List ℕ
own_literal said name = field_literal (last_named said.fields name)

-- the first text, or the other one if the first is empty
abbrev pub or_else : List ℕ → List ℕ → List ℕ
or_else text other = if length text == 0 then other else text

-- whether a character is a brace
abbrev pub is_brace : ℕ → Bool
is_brace c = c == char.open_brace || c == char.close_brace

-- the characters of a text in lowercase, without braces
abbrev pub folded : List ℕ → List ℕ
folded text = filter (λ c. not (is_brace c)) (chars (str_to_lowercase text))

-- the words of some characters, which white space separates
abbrev pub folded_words : List ℕ → List (List ℕ)
folded_words characters = filter (λ word. not (length word == 0)) (slice_split is_whitespace characters)

-- the words, each followed by a space
abbrev pub spaced_words : List (List ℕ) → List ℕ
spaced_words = flat_map (λ word. encode_utf8_all word ++ codes " ")

-- the words of a text in lowercase and without braces, each followed by a space
abbrev pub plain_words : List ℕ → List ℕ
plain_words text = spaced_words (folded_words (folded text))

-- whether a word is `and`, which separates people
abbrev pub is_between_people : List ℕ → Bool
is_between_people word = bytes_eq word (codes "and")

-- the words of the first of some people, each followed by a space
abbrev pub first_person : List ℕ → List ℕ
first_person people = spaced_words (take_while (λ word. not (is_between_people word)) (folded_words (folded people)))

-- the first four characters of a text
abbrev pub first_four : List ℕ → List ℕ
first_four text = encode_utf8_all (take 4 (chars text))

-- the characters of a text in lowercase, without braces and white space
abbrev pub squeezed : List ℕ → List ℕ
squeezed text = encode_utf8_all (filter (λ c. not (is_whitespace c)) (folded text))

-- the ways in which a DOI that is written as a link or with a scheme begins
abbrev pub doi_prefixes : Names
doi_prefixes = fields "https://doi.org/ http://doi.org/ https://dx.doi.org/ http://dx.doi.org/ doi:"

-- a text without the first prefix of the list that it begins with
abbrev pub without_prefixes : List ℕ → Names → List ℕ
without_prefixes text [] = text
without_prefixes text (prefix ∷ prefixes) =
    if starts_with nat_eq text prefix then drop (length prefix) text else without_prefixes text prefixes

-- a text if it begins with `10.`, as each DOI does (ISO 26324); any other text gives the empty text
abbrev pub right_doi : List ℕ → List ℕ
right_doi text = if starts_with eqb text (codes "10.") then text else []

-- the DOI of an entry in lowercase, without braces, white space and a link or a scheme before it; the empty text if it has none as one
-- literal
abbrev pub doi_of : EntryReading → List ℕ
doi_of said = right_doi (without_prefixes (squeezed (own_literal said (codes "doi"))) doi_prefixes)

-- the types of whole books: the ISBN of a part, such as a chapter, is that of its book
abbrev pub whole_types : Names
whole_types = fields "book booklet collection manual mvbook mvcollection mvproceedings mvreference proceedings reference"

-- the types of parts of books: the DOI of a part may be that of its book
abbrev pub part_types : Names
part_types = fields "inbook bookinbook suppbook incollection suppcollection inproceedings conference inreference"

-- whether an entry is a whole book
abbrev pub is_whole_book : EntryReading → Bool
is_whole_book said = is_known_name whole_types said.kind.text

-- whether an entry is a part of a book
abbrev pub is_part_of_book : EntryReading → Bool
is_part_of_book said = is_known_name part_types said.kind.text

-- whether one entry is a whole book, and the other a part of a book
abbrev pub are_book_and_part : EntryReading → EntryReading → Bool
are_book_and_part said other = (is_whole_book said && is_part_of_book other) || (is_part_of_book said && is_whole_book other)

-- a text without hyphens, braces and white space, in lowercase
abbrev pub unhyphened : List ℕ → List ℕ
unhyphened text = encode_utf8_all (filter (λ c. not (c == char.hyphen)) (chars (squeezed text)))

-- a text if it has the length, the digits and the check digit of an ISBN; any other text gives the empty text
abbrev pub right_isbn : List ℕ → List ℕ
right_isbn text = if list_all is_digit_or_x text && is_isbn text then text else []

-- the ISBN of a whole book in lowercase, without hyphens, braces and white space; the empty text if it has none as one literal, or isn't a
-- whole book
abbrev pub isbn_of : EntryReading → List ℕ
isbn_of said = if is_whole_book said then right_isbn (unhyphened (own_literal said (codes "isbn"))) else []

-- the year of an entry: its field `year`, or else the first four characters of its date. The words are in lowercase and without braces,
-- each followed by a space. A field that isn't one literal counts as missing.
abbrev pub year_of : EntryReading → List ℕ
year_of said = plain_words (or_else (own_literal said (codes "year")) (first_four (own_literal said (codes "date"))))

-- the words of the title of an entry, in lowercase and without braces, each followed by a space. A title that isn't one literal counts
-- as missing.
abbrev pub title_of : EntryReading → List ℕ
title_of said = plain_words (own_literal said (codes "title"))

-- a title, a first person and a year, joined by `{`, which none of them contains; the empty text if one of them is empty
abbrev pub work_text : List ℕ → List ℕ → List ℕ → List ℕ
work_text title person year =
    if length title == 0 || length person == 0 || length year == 0 then [] else title ++ (codes "{" ++ (person ++ (codes "{" ++ year)))

-- the authors of an entry, or else its editors. A field that isn't one literal counts as missing.
abbrev pub own_people : EntryReading → List ℕ
own_people said = or_else (own_literal said (codes "author")) (own_literal said (codes "editor"))

-- the words of the first of the people of an entry, in lowercase and without braces, each followed by a space
abbrev pub first_person_of : EntryReading → List ℕ
first_person_of said = first_person (own_people said)

-- the title, the first person and the year of an entry, or the empty text if it lacks one of them
abbrev pub work_of : EntryReading → List ℕ
work_of said = work_text (title_of said) (first_person_of said) (year_of said)

-- the identity of this kind, if the text isn't empty
abbrev pub identity : List ℕ → List ℕ → Names
identity kind text = if length text == 0 then [] else (kind ++ text) ∷ []

-- the identities of an entry: at most a DOI, an ISBN, and a title with a person and a year
abbrev pub identities : EntryReading → Names
identities said =
    identity (codes "doi ") (doi_of said)
    ++ (identity (codes "isbn ") (isbn_of said) ++ identity (codes "work ") (work_of said))

-- whether an entry has this identity
abbrev pub has_identity : List ℕ → EntryReading → Bool
has_identity id said = list_any (bytes_eq id) (identities said)

-- the fields that tell parts, volumes and editions of one title apart
abbrev pub telling_fields : Names
telling_fields = fields "volume number pages chapter part edition subtitle"

-- whether neither of two texts is empty, and they differ
abbrev pub are_different : List ℕ → List ℕ → Bool
are_different text other = not (length text == 0) && not (length other == 0) && not (bytes_eq text other)

-- whether two entries have texts in the field of this name, and the texts differ. They are compared in lowercase and without hyphens,
-- braces and white space
abbrev pub differs_in : EntryReading → EntryReading → List ℕ → Bool
differs_in said other name = are_different (unhyphened (own_literal said name)) (unhyphened (own_literal other name))

-- whether some people end in `and others`, which means further people
abbrev pub end_in_others : List ℕ → Bool
end_in_others people = ends_with eqb (plain_words people) (codes " and others ")

-- whether the people of one of two entries end in `and others`
abbrev pub have_open_list : EntryReading → EntryReading → Bool
have_open_list said other = end_in_others (own_people said) || end_in_others (own_people other)

-- whether two entries have different people. They are compared in lowercase and without hyphens, braces and white space. A list that ends
-- in `and others` isn't compared: only its first person counts, as in each identity by title, person and year
abbrev pub have_other_people : EntryReading → EntryReading → Bool
have_other_people said other =
    not (have_open_list said other) && are_different (unhyphened (own_people said)) (unhyphened (own_people other))

-- whether two texts are equal, and not empty
abbrev pub are_same : List ℕ → List ℕ → Bool
are_same text other = not (length text == 0) && bytes_eq text other

-- whether two entries have the same DOI
abbrev pub share_doi : EntryReading → EntryReading → Bool
share_doi said other = are_same (doi_of said) (doi_of other)

-- whether two entries have the same ISBN of whole books
abbrev pub share_isbn : EntryReading → EntryReading → Bool
share_isbn said other = are_same (isbn_of said) (isbn_of other)

-- whether two entries are parts of books, and the parts have different titles: both may have the DOI of one book
abbrev pub are_other_parts : EntryReading → EntryReading → Bool
are_other_parts said other = is_part_of_book said && is_part_of_book other && differs_in said other (codes "title")

-- whether two entries are told apart: one is a part of a book and the other a whole book, both are parts with different titles, they differ
-- in one of `telling_fields`, or they have neither a DOI nor an ISBN in common and have different people
abbrev pub are_told_apart : EntryReading → EntryReading → Bool
are_told_apart said other =
    are_book_and_part said other || are_other_parts said other || list_any (differs_in said other) telling_fields
    || (not (share_doi said other || share_isbn said other) && have_other_people said other)
