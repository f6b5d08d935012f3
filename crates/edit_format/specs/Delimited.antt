-- Meaning: words of public contracts.
-- Literals of values, with the delimiters of the style.
use Rattle.std.specs.Prelude.{◌==◌, ◌&&◌, ℕ, Bool, true, false, not, List, [], ◌∷◌, ◌++◌, codes, cond}
use Rattle.std.specs.List.{ends_with, list_any}
use lib.Dec.{eqb}
use Rattle.bib_text.specs.Braces.{has_balanced_braces}
use Rattle.bib_text.specs.Characters as char
use Rattle.bib_text.specs.Places.{between, place}
use Rattle.edit_entries.specs.Documents.{in_braces}
use Rattle.bib_syntax.specs.Reading.{Piece}
use Rattle.bib_syntax.specs.Reading.Piece.{literal, abbreviation}
use Rattle.edit_format.specs.declared.style.Delimiters.{Delimiters}
use Rattle.edit_format.specs.declared.style.Delimiters.TheVariants.{Keep, Braces, Quotes}

-- whether bytes have no unescaped quote. An unescaped backslash escapes the next byte, and may not be the last byte. `is_hidden`
-- says whether the first byte is escaped
abbrev pub hide_quotes : Bool → List ℕ → Bool
hide_quotes is_hidden [] = not is_hidden
hide_quotes true (b ∷ bs) = hide_quotes false bs
hide_quotes false (b ∷ bs) = cond (b == char.backslash) (hide_quotes true bs) (not (b == char.quote) && hide_quotes false bs)

-- whether a text can be written in quotes: it has no unescaped quote, and no backslash at its end would escape the delimiter
abbrev pub can_stand_in_quotes : List ℕ → Bool
can_stand_in_quotes content = hide_quotes false content

-- whether the style rewrites a quoted literal in braces
abbrev pub goes_in_braces : Delimiters → List ℕ → Bool
goes_in_braces Keep content = false
goes_in_braces Braces content = has_balanced_braces content
goes_in_braces Quotes content = false

-- whether a text contains a quote
abbrev pub has_quote : List ℕ → Bool
has_quote content = list_any (λ b. b == char.quote) content

-- whether the style rewrites a braced literal in quotes. It must have no quote, not even an escaped one, since BibTeX knows no escapes, and
-- no backslash at its end may escape the delimiter
abbrev pub goes_in_quotes : Delimiters → List ℕ → Bool
goes_in_quotes Keep content = false
goes_in_quotes Braces content = false
goes_in_quotes Quotes content = not (has_quote content) && can_stand_in_quotes content

-- a text in quotes
abbrev pub in_quotes : List ℕ → List ℕ
in_quotes content = codes "\"" ++ (content ++ codes "\"")

-- the output for a literal that is in braces in the file: in quotes if the style rewrites it, otherwise in braces
abbrev pub braced_in_style : Delimiters → List ℕ → List ℕ
braced_in_style delimiters content = cond (goes_in_quotes delimiters content) (in_quotes content) (in_braces content)

-- the output for a literal that is in quotes in the file: in braces if the style rewrites it, otherwise in quotes
abbrev pub quoted_in_style : Delimiters → List ℕ → List ℕ
quoted_in_style delimiters content = cond (goes_in_braces delimiters content) (in_braces content) (in_quotes content)

-- a literal with the delimiters of the style. The end of the text before it tells its delimiters in the file, and a number has none
abbrev pub delimited : Delimiters → List ℕ → List ℕ → List ℕ
delimited delimiters before content =
    cond (ends_with eqb before (codes "{")) (braced_in_style delimiters content)
    (cond (ends_with eqb before (codes "\"")) (quoted_in_style delimiters content) content)

-- the output for a piece of a value
abbrev pub piece_as_written : Delimiters → List ℕ → Piece → List ℕ
piece_as_written delimiters text (literal p) = delimited delimiters (between (place text 0) (place text p.start)) p.text
piece_as_written delimiters text (abbreviation p) = p.text
