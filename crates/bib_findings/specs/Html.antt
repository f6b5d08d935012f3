-- Meaning: words of public contracts.
-- The findings of printed fields: HTML and special characters. Exports of publishers and of Crossref contain tags such as `<i>` and
-- character references such as `&amp;`. LaTeX prints a tag as text, and stops at the `&` of a reference. Texts are compared as bytes: a
-- character beyond ASCII occurs in no tag or reference, and begins and ends no math.
use Rattle.std.specs.Prelude.{ℕ, Bool, false, not, ◌==◌, ◌&&◌, ◌||◌, List, [], ◌∷◌, ◌++◌, codes, length, nat_lt, slice_get, Option, Some, None, if◌then◌else◌}
use Rattle.std.specs.Char.{is_ascii_alphanumeric, is_ascii_digit, is_ascii_hexdigit, is_ascii_whitespace}
use Rattle.std.specs.List.{flat_map, list_all, list_any, take_while}
use Rattle.std.specs.Option.{option_map_or, option_or}
use Rattle.bib_text.specs.Characters as char
use Rattle.bib_tables.specs.Requirements.{Names, fields}
use Rattle.bib_syntax.specs.Reading.{EntryReading, FieldReading}
use Rattle.bib_findings.specs.Entries.{part_range}
use Rattle.bib_findings.specs.Errors.{finding_at}
use Rattle.bib_findings.specs.Fields.{named_message}
use Rattle.bib_findings.specs.Foreign.{begins_in_any_case}
use Rattle.bib_findings.specs.Identities.{literal_text}
use Rattle.bib_findings.specs.Nearest.{is_known_name}
use Rattle.bib_findings.specs.SpecialCharacters.{is_in_text, is_printed, specials_of, zone_after}
use Rattle.bib_findings.specs.declared.codes.Code.TheVariants.{Html}
use Rattle.bib_findings.specs.declared.finding.Finding.{Finding}
use Rattle.bib_findings.specs.declared.special_characters.Zone.{Zone}
use Rattle.bib_findings.specs.declared.special_characters.Zone.TheVariants.{InText}

-- a tag without its attributes, or a character reference; both as the file writes them
pub data Markup : Type 0 where
  tag : List ℕ → Markup
  reference : List ℕ → Markup

-- the semicolon, which ends a character reference
abbrev pub semicolon : ℕ
semicolon = 59

-- whether a byte may occur in the name of a tag or of a character reference: an ASCII letter or digit, a hyphen or a colon
abbrev pub is_html_name_byte : ℕ → Bool
is_html_name_byte b = is_ascii_alphanumeric b || b == char.hyphen || b == char.colon

-- the name at the start of a text: the longest run of bytes that may occur in a name
abbrev pub html_name_at : List ℕ → List ℕ
html_name_at text = take_while is_html_name_byte text

-- whether a byte directly after the name at the start of a text passes a test
abbrev pub name_ends_by : (ℕ → Bool) → List ℕ → Bool
name_ends_by test text = option_map_or test (slice_get text (length (html_name_at text))) false

-- names of tags: some of HTML, and others that publishers use
abbrev pub tag_names : Names
tag_names = fields "a b bold br div em font i inf italic p sc scp span strong sub sup tt u"

-- the beginnings of the names of other tags: those of JATS, the format of Crossref's titles, and of MathML
abbrev pub tag_prefixes : Names
tag_prefixes = fields "jats: mml:"

-- whether tags with this name are reported, in any ASCII case
abbrev pub is_tag_name : List ℕ → Bool
is_tag_name name = is_known_name tag_names name || list_any (λ prefix. begins_in_any_case prefix name) tag_prefixes

-- whether a byte ends the name of a tag with this many bytes: `>` or `/`, or ASCII white space after more than two bytes. After a shorter
-- name, a space more often belongs to a comparison, as in `n <p and q <a`
abbrev pub ends_tag_name : ℕ → ℕ → Bool
ends_tag_name size b = b == char.greater || b == char.slash || (nat_lt 2 size && is_ascii_whitespace b)

-- the tag that consists of `start` and a name, if the text after `start` begins with a name of a tag and the end of the name
abbrev pub tag_from : List ℕ → List ℕ → Option Markup
tag_from start text =
    if is_tag_name (html_name_at text) && name_ends_by (ends_tag_name (length (html_name_at text))) text
    then Some (Markup.tag (start ++ (html_name_at text ++ codes ">")))
    else None

-- the tag of which this is the text after `<`, if there is one; its name may have a slash before it
abbrev pub tag_after_less : List ℕ → Option Markup
tag_after_less [] = tag_from (codes "<") []
tag_after_less (b ∷ rest) = if b == char.slash then tag_from (codes "</") rest else tag_from (codes "<") (b ∷ rest)

-- the names of the character references that are reported, in any ASCII case
abbrev pub character_reference_names : Names
character_reference_names =
    fields "aacute acirc agrave alpha amp apos aring atilde auml beta ccedil deg delta eacute ecirc egrave euml gamma"
    ++ fields "gt hellip iacute icirc igrave iuml lambda ldquo lsquo lt mdash middot minus mu nbsp ndash ntilde oacute"
    ++ fields "ocirc ograve omega oslash otilde ouml pi quot rdquo rsquo sigma szlig times uacute ucirc ugrave uuml"
    ++ fields "yacute"

-- whether a byte is an `x`, in any case
abbrev pub is_x : ℕ → Bool
is_x b = b == char.letter_x || b == char.upper_x

-- whether a text is the number of a character: one or more ASCII digits, or `x` or `X` and one or more hexadecimal digits
abbrev pub is_character_number : List ℕ → Bool
is_character_number [] = false
is_character_number (b ∷ digits) =
    if is_x b then not (length digits == 0) && list_all is_ascii_hexdigit digits else list_all is_ascii_digit (b ∷ digits)

-- the character reference of which this is the text after `&`, if it begins with a known name and a semicolon
abbrev pub named_reference : List ℕ → Option Markup
named_reference text =
    if is_known_name character_reference_names (html_name_at text) && name_ends_by (λ b. b == semicolon) text
    then Some (Markup.reference (codes "&" ++ (html_name_at text ++ codes ";")))
    else None

-- the character reference of which this is the text after `&#`, if it begins with the number of a character and a semicolon
abbrev pub numeric_reference : List ℕ → Option Markup
numeric_reference text =
    if is_character_number (html_name_at text) && name_ends_by (λ b. b == semicolon) text
    then Some (Markup.reference (codes "&#" ++ (html_name_at text ++ codes ";")))
    else None

-- the character reference of which this is the text after `&`, if there is one
abbrev pub reference_after_ampersand : List ℕ → Option Markup
reference_after_ampersand [] = named_reference []
reference_after_ampersand (b ∷ rest) = if b == char.hash then numeric_reference rest else named_reference (b ∷ rest)

-- the tag or the character reference with which a text begins, if there is one
abbrev pub html_at : List ℕ → Option Markup
html_at [] = None
html_at (b ∷ rest) =
    if b == char.less then tag_after_less rest else if b == char.ampersand then reference_after_ampersand rest else None

-- the tag or the character reference with which a text in this zone begins, if there is one: none in math, and none if a backslash escapes
-- the first byte
abbrev pub html_in : Zone → List ℕ → Option Markup
html_in zone text = if is_in_text zone then html_at text else None

-- the first tag or character reference of a text that is outside math and whose first byte no backslash escapes; the first byte of the text
-- is in this zone
abbrev pub first_html : Zone → List ℕ → Option Markup
first_html zone [] = None
first_html zone (b ∷ rest) = option_or (html_in zone (b ∷ rest)) (first_html (zone_after zone b) rest)

-- the text of a tag or a character reference
abbrev pub markup_text : Markup → List ℕ
markup_text (Markup.tag text) = text
markup_text (Markup.reference text) = text

-- the end of a message: how LaTeX reads a tag or a character reference
abbrev pub markup_reading : Markup → List ℕ
markup_reading (Markup.tag text) = codes "; LaTeX prints it as text"
markup_reading (Markup.reference text) = codes "; LaTeX stops at `&`"

-- the finding of a field that contains this HTML, at the name of the field
abbrev pub html_finding : List ℕ → FieldReading → Markup → Finding
html_finding key f html =
    finding_at Html (part_range f.name)
    (named_message key (codes "HTML `" ++ (markup_text html ++ codes "` in ")) f.name.text (markup_reading html))

-- the findings of a special character in a field whose first HTML is this. There is none beside a character reference: it would often be
-- the `&` of the reference, and the advice would be wrong, because `\&amp;` prints `&amp;`
abbrev pub specials_beside : List ℕ → FieldReading → Markup → List Finding
specials_beside key f (Markup.tag text) = specials_of key f
specials_beside key f (Markup.reference text) = []

-- the findings of a field of the entry with this key, if it is printed and its value is one literal: that of HTML, if the text contains
-- some, and that of a special character (but see `specials_beside`). Text in braces is also tested for HTML
abbrev pub printed_finding : List ℕ → FieldReading → List Finding
printed_finding key f =
    if is_printed f.name.text
    then option_map_or
    (λ html. html_finding key f html ∷ specials_beside key f html)
    (first_html InText (literal_text f.value.pieces)) (specials_of key f)
    else []

-- the findings of the printed fields of an entry
abbrev pub printed_findings : EntryReading → List Finding
printed_findings said = flat_map (printed_finding said.key.text) said.fields
