-- Meaning: words of public contracts.
-- The text that a pattern gives for an entry.
use Rattle.std.specs.Prelude.{ℕ, ◌==◌, ◌&&◌, Bool, true, false, not, if◌then◌else◌, List, [], ◌∷◌, codes, encode_utf8, take, Option}
use Rattle.std.specs.Char.{is_ascii_alphanumeric}
use Rattle.std.specs.List.{flat_map, list_any}
use Rattle.std.specs.Option.{option_map_or, unwrap_or}
use Rattle.std.specs.FinMap as by_name
use Rattle.bib_text.specs.Characters as char
use Rattle.bib_chunks.specs.Values.{text}
use Rattle.bib_entry.specs.Fields.{field_or}
use Rattle.bib_entry.specs.declared.entry.Entry.{Entry}
use Rattle.bib_keys.specs.Characters.{is_in_keys}
use Rattle.bib_keys.specs.Commands.{text_in_key}
use Rattle.bib_keys.specs.Names.{names_in_key}
use Rattle.bib_keys.specs.Words.{in_case, significant_words}
use Rattle.bib_keys.specs.Years.{year_digits}
use Rattle.bib_keys.specs.declared.pattern.Case.{Case}
use Rattle.bib_keys.specs.declared.pattern.Part.{Part}
use Rattle.bib_keys.specs.declared.pattern.Part.TheVariants.{Literal, Author, Title, Year, ShortYear}

-- the names in a key for the people in the field `author`, or in `editor` if there is no `author`
abbrev pub authors_in_key : Case → Option ℕ → Entry → List ℕ
authors_in_key case count entry =
    option_map_or (λ people. flat_map (in_case case) (names_in_key count people)) (field_or entry (codes "author") (codes "editor")) []

-- the first significant words of the field `title`; one word if there is no number
abbrev pub title_in_key : Case → Option ℕ → Entry → List ℕ
title_in_key case count entry =
    option_map_or (λ title. flat_map (in_case case) (take (unwrap_or count 1) (significant_words (text_in_key title))))
    (by_name.get entry.fields (codes "title")) []

-- the year: the first four ASCII digits in a row in the field `date`, or in `year` if there is no `date`; only the last two of them if
-- `is_short`
abbrev pub year_in_key : Bool → Entry → List ℕ
year_in_key is_short entry = option_map_or (λ date. year_digits is_short (text date)) (field_or entry (codes "date") (codes "year")) []

-- the text of a part for an entry; a placeholder whose field is missing has no text
abbrev pub part_text : Entry → Part → List ℕ
part_text entry (Literal c) = encode_utf8 c
part_text entry (Author case count) = authors_in_key case count entry
part_text entry (Title case count) = title_in_key case count entry
part_text entry Year = year_in_key false entry
part_text entry ShortYear = year_in_key true entry

-- whether `c` stays in a key after the character `last`: it is allowed, and no hyphen after a hyphen
abbrev pub is_kept : ℕ → ℕ → Bool
is_kept last c = is_in_keys c && not (last == char.hyphen && c == char.hyphen)

-- a text without the characters that don't stay in a key; `last` is the last character before it that stays
abbrev pub cleaned_after : ℕ → List ℕ → List ℕ
cleaned_after last [] = []
cleaned_after last (c ∷ text) = if is_kept last c then c ∷ cleaned_after c text else cleaned_after last text

-- a text without the characters that don't stay in a key; no character is before it
abbrev pub cleaned : List ℕ → List ℕ
cleaned text = cleaned_after char.space text

-- whether a text has an ASCII letter or an ASCII digit
abbrev pub has_letter_or_digit : List ℕ → Bool
has_letter_or_digit text = list_any is_ascii_alphanumeric text

-- the text that a pattern gives for an entry: the texts of its parts, one after another, without the characters that don't stay
-- in a key. If no letter and no digit stays, it is `nokey`
abbrev pub pattern_text : List Part → Entry → List ℕ
pattern_text pattern entry =
    let text = cleaned (flat_map (part_text entry) pattern) in
    if has_letter_or_digit text then text else codes "nokey"
