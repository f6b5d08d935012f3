-- Meaning: words of public contracts.
-- The findings of wrong standard numbers of books and of serials: ISBN and ISSN.
use Rattle.std.specs.Prelude.{ℕ, Bool, not, ◌==◌, ◌&&◌, List, [], ◌∷◌, ◌++◌, true, false, codes, filter, if◌then◌else◌, length}
use Rattle.std.specs.List.{list_all, list_any, slice_split}
use Rattle.bib_text.specs.Characters as char
use Rattle.bib_syntax.specs.Reading.{EntryReading}
use Rattle.bib_findings.specs.CheckDigits.{is_digit_or_x, is_isbn, is_issn}
use Rattle.bib_findings.specs.Entries.{field_place}
use Rattle.bib_findings.specs.Errors.{finding_at}
use Rattle.bib_findings.specs.Fields.{named_message}
use Rattle.bib_findings.specs.Identities.{own_literal}
use Rattle.bib_findings.specs.declared.codes.Code.{Code}
use Rattle.bib_findings.specs.declared.codes.Code.TheVariants as code
use Rattle.bib_findings.specs.declared.finding.Finding.{Finding}

-- whether a byte separates numbers: a comma, a semicolon, or one of the letters of the word `and`, none of which a number contains
abbrev pub is_number_separator : ℕ → Bool
is_number_separator b = list_any (λ one. b == one) (codes ",;and")

-- whether a byte is a hyphen or a space, which separate the groups of a number
abbrev pub is_group_separator : ℕ → Bool
is_group_separator b = list_any (λ one. b == one) (codes "- ")

-- the bytes of a text without hyphens and spaces: the digits of a number
abbrev pub digits_of : List ℕ → List ℕ
digits_of part = filter (λ b. not (is_group_separator b)) part

-- the parts of a text between commas, semicolons and the letters `a`, `n` and `d`: the word `and` separates numbers
abbrev pub number_parts : List ℕ → List (List ℕ)
number_parts text = slice_split is_number_separator text

-- whether a byte separates words: a space
abbrev pub is_word_separator : ℕ → Bool
is_word_separator b = b == char.space

-- the words of a part between spaces; a word may be empty
abbrev pub number_words : List ℕ → List (List ℕ)
number_words part = slice_split is_word_separator part

-- whether digits have the length and the check digit of an ISSN if `is_serial` is true, or else of an ISBN
abbrev pub is_standard_number : Bool → List ℕ → Bool
is_standard_number is_serial digits = if is_serial then is_issn digits else is_isbn digits

-- whether a text without its hyphens and spaces is neither empty nor a standard number
abbrev pub is_wrong_number : Bool → List ℕ → Bool
is_wrong_number is_serial text =
    not (length (digits_of text) == 0) && not (is_standard_number is_serial (digits_of text))

-- whether a part and one of its words are neither blank nor a number; a text of only hyphens and spaces is blank
abbrev pub is_wrong_part : Bool → List ℕ → Bool
is_wrong_part is_serial part =
    is_wrong_number is_serial part && list_any (is_wrong_number is_serial) (number_words part)

-- whether a part contains only digits, `X` in either case, hyphens and spaces
abbrev pub is_numeric : List ℕ → Bool
is_numeric part = list_all is_digit_or_x (digits_of part)

-- whether all of these parts are numeric, and one of them is wrong
abbrev pub has_wrong_among : Bool → List (List ℕ) → Bool
has_wrong_among is_serial parts = list_all is_numeric parts && list_any (is_wrong_part is_serial) parts

-- whether all parts of a text are numeric, and one of them is wrong; a text with other words isn't tested
abbrev pub has_wrong_number : Bool → List ℕ → Bool
has_wrong_number is_serial text = has_wrong_among is_serial (number_parts text)

-- the code of a wrong number
abbrev pub number_code : Bool → Code
number_code is_serial = if is_serial then code.WrongIssn else code.WrongIsbn

-- the finding of a field that contains a wrong number, at the field
abbrev pub number_finding : EntryReading → Bool → List ℕ → Finding
number_finding said is_serial name =
    finding_at (number_code is_serial) (field_place said name)
    (named_message said.key.text (codes "wrong length or check digit in ") name [])

-- the finding of the field of this name of an entry, if it is one literal that contains a wrong number: an ISSN if `is_serial` is true, or
-- else an ISBN
abbrev pub number_finding_of : EntryReading → Bool → List ℕ → List Finding
number_finding_of said is_serial name =
    if has_wrong_number is_serial (own_literal said name) then number_finding said is_serial name ∷ [] else []

-- the findings of the wrong numbers of an entry, in its fields `isbn` and `issn` if they are one literal
abbrev pub number_findings : EntryReading → List Finding
number_findings said = number_finding_of said false (codes "isbn") ++ number_finding_of said true (codes "issn")
