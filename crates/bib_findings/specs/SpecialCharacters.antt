-- Meaning: words of public contracts.
-- The findings of printed fields with a special character: one that is special to LaTeX, and occurs outside braces and math where no
-- backslash escapes it. In `\\&`, the second backslash is escaped, and the `&` isn't.
use Rattle.std.specs.Prelude.{ℕ, Bool, true, false, ◌==◌, ◌&&◌, ◌||◌, List, [], ◌∷◌, ◌++◌, chars, codes, encode_utf8, Option, Some, None, if◌then◌else◌}
use Rattle.std.specs.Option.{option_map_or}
use Rattle.bib_text.specs.Characters as char
use Rattle.bib_tables.specs.Requirements.{Names, fields}
use Rattle.bib_syntax.specs.Reading.{FieldReading}
use Rattle.bib_findings.specs.Entries.{part_range}
use Rattle.bib_findings.specs.Errors.{finding_at}
use Rattle.bib_findings.specs.Fields.{named_message}
use Rattle.bib_findings.specs.Identities.{literal_text}
use Rattle.bib_findings.specs.Nearest.{is_known_name}
use Rattle.bib_findings.specs.Outside.{outside}
use Rattle.bib_findings.specs.declared.codes.Code.TheVariants.{SpecialCharacter}
use Rattle.bib_findings.specs.declared.finding.Finding.{Finding}
use Rattle.bib_findings.specs.declared.special_characters.Zone.{Zone}
use Rattle.bib_findings.specs.declared.special_characters.Zone.TheVariants.{InText, InTextEscaped, MathOpened, InMath, InMathEscaped, InDisplay, InDisplayEscaped, DisplayClosing, InFormula, InFormulaEscaped}

-- whether a character is `&`, `%`, `#`, `_` or `^`, which LaTeX doesn't print outside math
abbrev pub is_latex_special : ℕ → Bool
is_latex_special c = c == char.ampersand || c == char.percent || c == char.hash || c == char.underscore || c == char.circumflex

-- whether a bracket or a parenthesis after a backslash begins a formula
abbrev pub opens_formula : ℕ → Bool
opens_formula c = c == char.open_parenthesis || c == char.open_bracket

-- whether a bracket or a parenthesis after a backslash ends a formula
abbrev pub closes_formula : ℕ → Bool
closes_formula c = c == char.close_parenthesis || c == char.close_bracket

-- the zone after a character. A dollar sign begins and ends math, and two of them displayed math. In text, `\(` and `\[` begin a formula,
-- and `\)` and `\]` end it. Each other backslash that isn't escaped itself escapes the next character
abbrev pub zone_after : Zone → ℕ → Zone
zone_after InText c = if c == char.backslash then InTextEscaped else if c == char.dollar then MathOpened else InText
zone_after InTextEscaped c = if opens_formula c then InFormula else InText
zone_after InMath c = if c == char.backslash then InMathEscaped else if c == char.dollar then InText else InMath
zone_after InMathEscaped c = InMath
zone_after MathOpened c = if c == char.backslash then InMathEscaped else if c == char.dollar then InDisplay else InMath
zone_after InDisplay c = if c == char.backslash then InDisplayEscaped else if c == char.dollar then DisplayClosing else InDisplay
zone_after InDisplayEscaped c = InDisplay
zone_after DisplayClosing c = if c == char.backslash then InDisplayEscaped else if c == char.dollar then InText else InDisplay
zone_after InFormula c = if c == char.backslash then InFormulaEscaped else InFormula
zone_after InFormulaEscaped c = if closes_formula c then InText else InFormula

-- whether a zone is text in which no backslash escapes the next character
abbrev pub is_in_text : Zone → Bool
is_in_text InText = true
is_in_text _ = false

-- whether a character in this zone is a special one in the text itself
abbrev pub is_unescaped_special : Zone → ℕ → Bool
is_unescaped_special zone c = is_in_text zone && is_latex_special c

-- the first of these characters that is special, outside math, and not escaped by a backslash; the first character is in this zone
abbrev pub first_special : Zone → List ℕ → Option ℕ
first_special zone [] = None
first_special zone (c ∷ rest) = if is_unescaped_special zone c then Some c else first_special (zone_after zone c) rest

-- the first special character of a text outside braces and math: the argument of a command may have any of these characters
abbrev pub special_of : List ℕ → Option ℕ
special_of text = first_special InText (outside 0 (chars text))

-- the zone after a character outside braces, as it is shown: an `x` for an opening brace, and nothing for a closing one
abbrev pub zone_after_shown : Zone → ℕ → Zone
zone_after_shown zone c =
    if c == char.open_brace then zone_after zone char.letter_x else if c == char.close_brace then zone else zone_after zone c

-- the tested fields: names, titles, publishers, places and notes that BibLaTeX prints as text
abbrev pub printed_fields : Names
printed_fields =
    fields "addendum author booksubtitle booktitle booktitleaddon editor eventtitle howpublished institution issuesubtitle"
    ++ (fields "issuetitle journal journalsubtitle journaltitle location address mainsubtitle maintitle maintitleaddon note"
    ++ (fields "organization origpublisher origtitle publisher reprinttitle school series shortjournal shorttitle subtitle title"
    ++ fields "titleaddon translator venue"))

-- whether a field of this name is tested, in any ASCII case
abbrev pub is_printed : List ℕ → Bool
is_printed name = is_known_name printed_fields name

-- the end of a message: the advice for a special character; `\^` is an accent
abbrev pub special_remedy : ℕ → List ℕ
special_remedy c = if c == char.circumflex then codes "; write `\\textasciicircum{}`" else codes " needs a backslash before it"

-- the finding of a field with this special character, at the name of the field
abbrev pub special_finding : List ℕ → FieldReading → ℕ → Finding
special_finding key f c =
    finding_at SpecialCharacter (part_range f.name)
    (named_message key (codes "`" ++ (encode_utf8 c ++ codes "` in ")) f.name.text (special_remedy c))

-- the finding of a field of the entry with this key, if its value is one literal with a special character
abbrev pub specials_of : List ℕ → FieldReading → List Finding
specials_of key f = option_map_or (λ c. special_finding key f c ∷ []) (special_of (literal_text f.value.pieces)) []
