-- Meaning: words of public contracts.
-- The findings of URLs without a scheme. A URL begins with a scheme and a colon (RFC 3986, sections 3 and 3.1). Without them it is a
-- relative reference (section 4.2): BibLaTeX makes a link of it that viewers take for the name of a file.
use Rattle.std.specs.Prelude.{ℕ, Bool, false, not, ◌==◌, ◌&&◌, ◌||◌, List, [], ◌∷◌, codes, if◌then◌else◌, length}
use Rattle.std.specs.Char.{is_ascii_alphabetic, is_ascii_alphanumeric, is_ascii_whitespace}
use Rattle.std.specs.List.{list_any}
use Rattle.std.specs.Str.{trim}
use Rattle.bib_text.specs.Characters as char
use Rattle.bib_syntax.specs.Reading.{EntryReading}
use Rattle.bib_text.specs.Runs.{rest_after}
use Rattle.bib_findings.specs.Entries.{field_place}
use Rattle.bib_findings.specs.Errors.{finding_at}
use Rattle.bib_findings.specs.Fields.{named_message}
use Rattle.bib_findings.specs.Identities.{own_literal}
use Rattle.bib_findings.specs.declared.codes.Code.TheVariants.{UrlScheme}
use Rattle.bib_findings.specs.declared.finding.Finding.{Finding}

-- whether a byte may occur in a scheme after its first letter
abbrev pub is_scheme_byte : ℕ → Bool
is_scheme_byte b = is_ascii_alphanumeric b || list_any (λ one. b == one) (codes "+-.")

-- whether a text begins with an ASCII letter
abbrev pub begins_with_letter : List ℕ → Bool
begins_with_letter [] = false
begins_with_letter (b ∷ rest) = is_ascii_alphabetic b

-- whether a text begins with a colon
abbrev pub begins_with_colon : List ℕ → Bool
begins_with_colon [] = false
begins_with_colon (b ∷ rest) = b == char.colon

-- whether a text begins with a scheme and a colon: an ASCII letter, then ASCII letters, digits, `+`, `-` and `.`, and then the colon
abbrev pub begins_with_scheme : List ℕ → Bool
begins_with_scheme text = begins_with_letter text && begins_with_colon (rest_after is_scheme_byte text)

-- whether a text with this byte may be more than a single URL: ASCII white space, a backslash or a brace
abbrev pub is_more_than_url : ℕ → Bool
is_more_than_url b = is_ascii_whitespace b || list_any (λ one. b == one) (codes "\\{}")

-- whether a text is one word without commands and braces, and has no scheme; any other text isn't tested
abbrev pub has_no_scheme : List ℕ → Bool
has_no_scheme text = not (length text == 0) && not (list_any is_more_than_url text) && not (begins_with_scheme text)

-- whether the field `url` of an entry is one literal, and its text without the white space around it satisfies `has_no_scheme`
abbrev pub has_url_without_scheme : EntryReading → Bool
has_url_without_scheme said = has_no_scheme (trim (own_literal said (codes "url")))

-- the finding of a URL without a scheme, at the field
abbrev pub url_finding : EntryReading → Finding
url_finding said =
    finding_at UrlScheme (field_place said (codes "url"))
    (named_message said.key.text [] (codes "url") (codes " has no scheme such as `https:`; viewers take the link for a file"))

-- the finding of the URL of an entry, if it has no scheme
abbrev pub url_findings : EntryReading → List Finding
url_findings said = if has_url_without_scheme said then url_finding said ∷ [] else []
