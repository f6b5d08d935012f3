-- Meaning: words of public contracts.
-- The escapes of texts in formats of other programs.
use Rattle.std.specs.Prelude.{ℕ, Bool, ◌==◌, ◌||◌, List, Option, Some, None, codes, encode_utf8, if◌then◌else◌}
use Rattle.std.specs.Int.{is_in_range}
use Rattle.std.specs.List.{flat_map}
use Rattle.std.specs.Option.{unwrap_or}
use Rattle.std.specs.Str.{chars}
use Rattle.bib_text.specs.Characters as char
use Rattle.bibkit_core.specs.declared.escapes.Context.{Context}
use Rattle.bibkit_core.specs.declared.escapes.Context.TheVariants.{GithubMessage, GithubProperty, XmlAttribute}

-- the replacement of a character in the message of a workflow command of GitHub Actions, or `None` for a character that is kept
-- (`escapeData` of actions/toolkit)
abbrev pub message_replacement : ℕ → Option (List ℕ)
message_replacement c =
    if c == char.percent then Some (codes "%25") else if c == char.carriage_return then Some (codes "%0D")
    else if c == char.line_feed then Some (codes "%0A") else None

-- the replacement of a character in a property of a workflow command, or `None` for a character that is kept (`escapeProperty` of
-- actions/toolkit)
abbrev pub property_replacement : ℕ → Option (List ℕ)
property_replacement c =
    if c == char.colon then Some (codes "%3A") else if c == char.comma then Some (codes "%2C") else message_replacement c

-- whether XML 1.0 allows a character (section 2.2)
abbrev pub is_xml_character : ℕ → Bool
is_xml_character c =
    c == char.tab || c == char.line_feed || c == char.carriage_return || is_in_range 0x20 0xD7FF c || is_in_range 0xE000 0xFFFD c
    || is_in_range 0x10000 0x10FFFF c

-- U+FFFD, the replacement character
abbrev pub replacement_character : List ℕ
replacement_character = encode_utf8 0xFFFD

-- U+FFFD for a character that XML 1.0 doesn't allow, otherwise `None`
abbrev pub unless_allowed : ℕ → Option (List ℕ)
unless_allowed c = if is_xml_character c then None else Some replacement_character

-- the replacement of a character in an attribute of XML 1.0, or `None` for a character that is kept. A character of markup, and one that a
-- parser would read as a space, is replaced by a reference, and a character that XML doesn't allow by U+FFFD.
abbrev pub xml_replacement : ℕ → Option (List ℕ)
xml_replacement c =
    if c == char.ampersand then Some (codes "&amp;") else if c == char.less then Some (codes "&lt;")
    else if c == char.greater then Some (codes "&gt;") else if c == char.quote then Some (codes "&quot;")
    else if c == char.apostrophe then Some (codes "&apos;") else if c == char.tab then Some (codes "&#9;")
    else if c == char.line_feed then Some (codes "&#10;") else if c == char.carriage_return then Some (codes "&#13;")
    else unless_allowed c

-- the replacement of a character in this context, or `None` for a character that is kept
abbrev pub context_replacement : Context → ℕ → Option (List ℕ)
context_replacement GithubMessage c = message_replacement c
context_replacement GithubProperty c = property_replacement c
context_replacement XmlAttribute c = xml_replacement c

-- a character, or its replacement in this context
abbrev pub escaped_character : Context → ℕ → List ℕ
escaped_character context c = unwrap_or (context_replacement context c) (encode_utf8 c)

-- a text with its characters escaped for this context
abbrev pub escaped : Context → List ℕ → List ℕ
escaped context text = flat_map (escaped_character context) (chars text)
