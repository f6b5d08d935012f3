-- Meaning: words of public contracts.
-- Names of a project's own style: fields, entry types and abbreviations that BibLaTeX doesn't have. A project lists them, so that they
-- aren't reported as unknown.
use Rattle.std.specs.Prelude.{◌==◌, ℕ, Bool, false, not, List, [], Option, None, codes, filter, string_bytes}
use Rattle.std.specs.List.{before_first, list_any}
use Rattle.std.specs.Option.{option_and_then, option_map_or, option_or}
use Rattle.bib_text.specs.Characters as char
use Rattle.bib_findings.specs.declared.codes.Code.{Code}
use Rattle.bib_findings.specs.declared.codes.Code.TheVariants.{UnknownAbbreviation, UnknownField, UnknownType}
use Rattle.bib_findings.specs.declared.finding.Finding.{Finding}
use Rattle.bib_queries.specs.Elements.{text_after_part, text_before_quote}
use Rattle.bib_syntax.specs.Grammar.{is_word}
use Rattle.bibkit_core.specs.Conditions.{before_end}
use Rattle.bibkit_core.specs.declared.own_names.OwnNames.{OwnNames}

-- the text before the first space, or the whole text
abbrev pub first_word : List ℕ → List ℕ
first_word text = before_first (λ b. b == char.space) text

-- a word without a backtick and a semicolon at its end, or without a backtick at its end, or `None` if it ends otherwise
abbrev pub before_backtick : List ℕ → Option (List ℕ)
before_backtick word = option_or (before_end (codes "`;") word) (before_end (codes "`") word)

-- the name in backticks after the first occurrence of these words, or `None` without one. A name may contain a backtick, but no space. Its
-- end is that of the message, or a semicolon and a space follow it.
abbrev pub name_in_backticks : List ℕ → List ℕ → Option (List ℕ)
name_in_backticks words message = option_and_then (λ rest. before_backtick (first_word rest)) (text_after_part words message)

-- the name in quotes after the first occurrence of these words, or `None` without one
abbrev pub name_in_quotes : List ℕ → List ℕ → Option (List ℕ)
name_in_quotes words message = option_and_then text_before_quote (text_after_part words message)

-- the name that a finding with this code and this message reports as unknown, or `None` for any other finding. No key of an entry
-- contains a space, so the words are those of the message.
abbrev pub unknown_name : Code → List ℕ → Option (List ℕ)
unknown_name UnknownField message = name_in_backticks (codes "unknown field `") message
unknown_name UnknownType message = name_in_backticks (codes "unknown entry type `") message
unknown_name UnknownAbbreviation message = name_in_quotes (codes "unknown abbreviation \"") message
unknown_name _ message = None

-- whether a name that a finding with this code reports is one of the project's names, in any ASCII case
abbrev pub is_own_name : OwnNames → Code → List ℕ → Bool
is_own_name own UnknownField name = list_any (λ one. is_word name (string_bytes one)) own.fields.items
is_own_name own UnknownType name = list_any (λ one. is_word name (string_bytes one)) own.types.items
is_own_name own UnknownAbbreviation name = list_any (λ one. is_word name (string_bytes one)) own.abbreviations.items
is_own_name own _ name = false

-- whether a finding reports a name of the project as unknown
abbrev pub is_own : OwnNames → Finding → Bool
is_own own f = option_map_or (is_own_name own f.code) (unknown_name f.code f.message) false

-- the findings that don't report a name of the project as unknown
abbrev pub without_own : OwnNames → List Finding → List Finding
without_own own found = filter (λ f. not (is_own own f)) found
