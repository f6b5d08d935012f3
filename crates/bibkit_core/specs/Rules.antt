-- Meaning: words of public contracts.
-- Rules that select findings: a code, alone or with the name of a field, which is a word of the message. The lines of a file can switch off
-- rules.
use Rattle.std.specs.Prelude.{◌==◌, ◌||◌, ◌&&◌, ℕ, Bool, true, not, if◌then◌else◌, List, [], codes, length, bytes_eq, Option, Some, None, option_and_then, option_to_list}
use Rattle.std.specs.Char.{is_ascii_alphanumeric}
use Rattle.std.specs.List.{before_first, flat_map, list_any, slice_split}
use Rattle.std.specs.Option.{option_map_or, unwrap_or}
use Rattle.std.specs.Str.{trim}
use Rattle.std.specs.Str.Lines.{lines}
use Rattle.bib_text.specs.Characters as char
use Rattle.bib_findings.specs.Codes.{code_name, code_named}
use Rattle.bib_findings.specs.declared.codes.Code.{Code}
use Rattle.bib_findings.specs.declared.finding.Finding.{Finding}
use Rattle.bib_queries.specs.Elements.{text_after_part}
use Rattle.bib_queries.specs.Lines.{text_after_prefix}
use Rattle.bib_syntax.specs.Grammar.{is_word}
use Rattle.bibkit_core.specs.declared.rules.Rule.{Rule}

-- the text before the first colon, or all of the text without one
abbrev pub before_colon : List ℕ → List ℕ
before_colon text = before_first (λ b. b == char.colon) text

-- whether a byte ends a word of a message: it is no ASCII letter or digit, hyphen, underscore or plus sign
abbrev pub ends_word : ℕ → Bool
ends_word b = not (is_ascii_alphanumeric b || (b == char.hyphen || (b == char.underscore || b == char.plus)))

-- whether a text can be a word of a message: it is not empty, and no byte of it ends a word
abbrev pub is_word_of_message : List ℕ → Bool
is_word_of_message text = not (length text == 0) && not (list_any ends_word text)

-- the rule with this code and this name of a field, if there is one; no rule if the name can't be a word of a message
abbrev pub rule_with : Code → Option (List ℕ) → Option Rule
rule_with code None = Some (record { code = code; field = None })
rule_with code (Some field) = if is_word_of_message field then Some (record { code = code; field = Some field }) else None

-- the rule with this name: that of a code, with the field whose name follows the first colon, if there is one. `None` if no code has the
-- name before the colon, or if the text after the colon can't be a word of a message
abbrev pub rule_named : List ℕ → Option Rule
rule_named text = option_and_then (λ code. rule_with code (text_after_part (codes ":") text)) (code_named (before_colon text))

-- the text of a message after the first colon with a space after it, which ends the name of the entry; all of it without one
abbrev pub after_key : List ℕ → List ℕ
after_key message = unwrap_or (text_after_part (codes ": ") message) message

-- whether a word is the name of a field, in any ASCII case
abbrev pub is_field_name : List ℕ → List ℕ → Bool
is_field_name field word = is_word word field

-- whether a message contains the name of a field as a word, in any ASCII case, after the key of its entry
abbrev pub names_field : List ℕ → List ℕ → Bool
names_field field message = list_any (is_field_name field) (slice_split ends_word (after_key message))

-- whether the rule has no field, or the message contains the name of the field as a word, in any ASCII case, after the key of its entry
abbrev pub is_of_field : Option (List ℕ) → List ℕ → Bool
is_of_field field message = option_map_or (λ name. names_field name message) field true

-- whether a rule means a finding: the finding has the code of the rule. If the rule has a field, the message contains its name as a word,
-- in any ASCII case, after the key of its entry
abbrev pub means : Finding → Rule → Bool
means f rule = bytes_eq (code_name rule.code) (code_name f.code) && is_of_field rule.field f.message

-- whether one of these rules means a finding
abbrev pub mean : List Rule → Finding → Bool
mean rules f = list_any (means f) rules

-- the rule with this name, if there is one, without the white space around the name
abbrev pub rules_named : List ℕ → List Rule
rules_named name = option_to_list (rule_named (trim name))

-- the rules in a comma-separated list; names that are no rules are left out
abbrev pub rules_listed : List ℕ → List Rule
rules_listed list = flat_map rules_named (slice_split (λ b. b == char.comma) list)

-- the rules that a line of a file switches off: the list after `% bibkit: off ` at the start of the line
abbrev pub rules_of_line : List ℕ → List Rule
rules_of_line line = option_map_or rules_listed (text_after_prefix (codes "% bibkit: off ") line) []

-- the rules that the lines of a text switch off
abbrev pub switched_off : List ℕ → List Rule
switched_off text = flat_map rules_of_line (lines text)
