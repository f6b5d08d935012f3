-- Meaning: words of public contracts.
-- The requests that the arguments of commands make.
use Rattle.std.specs.Prelude.{◌≡◌, ◌&&◌, ◌==◌, ◌++◌, ℕ, Bool, true, false, not, if◌then◌else◌, List, [], ◌∷◌, bytes_eq, codes, find}
use Rattle.std.specs.Prelude.{is_none, length, map, Option, Some, None, option_and_then, option_map, unwrap_or, IsSomeAnd}
use Rattle.std.specs.Borrow.{Bor}
use Rattle.std.specs.Global.{Vec}
use Rattle.std.specs.List.{flat_map}
use Rattle.std.specs.Option.{option_map_or, option_or}
use Rattle.std.specs.Str.{trim}
use Rattle.bib_findings.specs.Codes.{code_named}
use Rattle.bib_findings.specs.declared.codes.Code.{Code}
use Rattle.bib_queries.specs.declared.request.Request.TheVariants as excerpt
use Rattle.bib_tables.specs.declared.dialects.Dialect.{Dialect}
use Rattle.bib_tables.specs.declared.dialects.Dialect.TheVariants.{Biblatex, Bibtex}
use Rattle.bib_text.specs.Enums.{value_named}
use Rattle.bibkit_commands.specs.declared.merging.Merging.{Merging}
use Rattle.bibkit_commands.specs.declared.reading_arguments.ReadingCommand.{ReadingCommand}
use Rattle.bibkit_commands.specs.declared.reading_arguments.ReadingCommand.TheVariants as command
use Rattle.bibkit_commands.specs.declared.importing.Source.{Source}
use Rattle.bibkit_commands.specs.declared.importing.Source.TheVariants as source
use Rattle.bib_csl.specs.declared.sentence_items.TitleCase.{TitleCase}
use Rattle.bib_csl.specs.declared.sentence_items.TitleCase.TheVariants.{AsWritten, Sentence}
use Rattle.bibkit_convert.specs.declared.target.Target.{Target}
use Rattle.bibkit_convert.specs.declared.target.Target.TheVariants.{Csl, Json, Ris}
use Rattle.bibkit_core.specs.Rules.{rule_named, rules_named}
use Rattle.bibkit_core.specs.declared.request.Cited.{Cited}
use Rattle.bibkit_core.specs.declared.request.Request.{Request}
use Rattle.bibkit_core.specs.declared.request.Request.TheVariants as request
use Rattle.bibkit_core.specs.declared.rules.Rule.{Rule}
use Rattle.bibkit_settings.specs.Settings.{color_named, fail_on_named, format_named}
use Rattle.bibkit_settings.specs.StyleSettings.{delimiters_named, width_of}
use Rattle.bibkit_settings.specs.declared.settings.OutputFormat.{OutputFormat}
use Rattle.bibkit_settings.specs.declared.settings.OutputFormat.TheVariants.{Text}
use Rattle.bibkit_settings.specs.declared.settings.Settings.{Settings}
use Rattle.bibkit_settings.specs.declared.style_settings.StyleSettings.{StyleSettings}
use Rattle.bibkit_versions.specs.declared.diff.Format.{Format}
use Rattle.bibkit_versions.specs.declared.diff.Format.TheVariants as changes
use Rattle.edit_orders.specs.Orders.{IsOrderRefused, comma_words, order_parts, part_named}
use Rattle.edit_orders.specs.declared.order.Order.{Order}
use Rattle.edit_orders.specs.declared.order.OrderError.{OrderError}
use Rattle.bibkit_commands.specs.Arguments.{Arguments, given_values, has_flag, number_in, argument_number, argument_value, argument_values}
use Rattle.bibkit_commands.specs.declared.arguments.Asked.{Asked}
use Rattle.bibkit_commands.specs.declared.arguments.Asked.TheVariants as variant
use Rattle.bibkit_commands.specs.declared.edits.Mode.{Mode}
use Rattle.bibkit_commands.specs.declared.edits.Mode.TheVariants.{Print, Write, Check, Diff}

-- ---- the use of a new text

-- the use of a new text, by whether a diff, a check and writing are asked for: a diff (with a check if both are asked for), or else a
-- check, or else writing. Without any of them, the new text is printed
abbrev pub mode_for : Bool → Bool → Bool → Mode
mode_for true check write = Diff check
mode_for false true write = Check
mode_for false false true = Write
mode_for false false false = Print

-- the use of a new text that `--diff` and `--write` ask for, with a check or without one
abbrev pub mode_asked : Bool → Arguments → Mode
mode_asked check arguments = mode_for (has_flag arguments (codes "diff")) check (has_flag arguments (codes "write"))

-- ---- lint

-- the code that `--explain` names, if there is one
abbrev pub code_asked : Arguments → Option Code
code_asked arguments = option_and_then code_named (argument_value arguments (codes "explain"))

-- the use of the new texts of `--fix`, or `None` without `--fix`
abbrev pub fix_asked : Arguments → Option Mode
fix_asked arguments = if has_flag arguments (codes "fix") then Some (mode_asked false arguments) else None

-- the format of findings for a value of `--format`. Without a value, findings are lines if they are mended
abbrev pub format_for : Bool → Option (List ℕ) → Option OutputFormat
format_for fix (Some name) = format_named name
format_for true None = Some Text
format_for false None = None

-- the format of findings
abbrev pub format_asked : Arguments → Option OutputFormat
format_asked arguments = format_for (has_flag arguments (codes "fix")) (argument_value arguments (codes "format"))

-- whether findings are lines
abbrev pub are_lines : Option OutputFormat → Bool
are_lines (Some Text) = true
are_lines _ = false

-- whether findings are mended, but aren't lines
abbrev pub has_wrong_format : Arguments → Bool
has_wrong_format arguments = has_flag arguments (codes "fix") && not (are_lines (format_asked arguments))

-- whether a word is no rule, without the white space around it
abbrev pub is_no_rule : List ℕ → Bool
is_no_rule word = is_none (rule_named (trim word))

-- the first value of `--only` and `--ignore` that is no rule
abbrev pub wrong_rule : Arguments → Option (List ℕ)
wrong_rule arguments = find is_no_rule (argument_values arguments (codes "only") ++ argument_values arguments (codes "ignore"))

-- the rules that are values of an option, or `None` if it is missing
abbrev pub rules_asked : Arguments → List ℕ → Option (List Rule)
rules_asked arguments id = option_map (flat_map rules_named) (given_values arguments id)

-- `settings` are those that the options of `lint` set
pub record AreSettingsOf (arguments : Arguments) (settings : Settings) : Type 0 where
  pub only : option_map (λ rules. rules.items) settings.only ≡ rules_asked arguments (codes "only")
  pub ignored : option_map (λ rules. rules.items) settings.ignored ≡ rules_asked arguments (codes "ignore")
  pub color : settings.color ≡ option_and_then color_named (argument_value arguments (codes "color"))
  pub format : settings.format ≡ format_asked arguments
  pub fail_on : settings.fail_on ≡ option_and_then fail_on_named (argument_value arguments (codes "fail-on"))

-- `cited` is the document that `--cited` names; entries that it doesn't cite are reported with `--unused`
abbrev pub IsDocumentAsked : Arguments → Option Cited → Type 0
IsDocumentAsked arguments None = argument_value arguments (codes "cited") ≡ None
IsDocumentAsked arguments (Some cited) =
    (argument_value arguments (codes "cited") ≡ Some cited.name.now) × (cited.has_unused ≡ has_flag arguments (codes "unused"))

-- the options of the findings to print: `settings` and so on are those that the arguments of `lint` set
pub record AreOptionsOfFindings (arguments : Arguments) (settings : Settings) (cited : Option Cited) (each : Bool)
    (conditions : Vec (Bor (List ℕ))) (input : Option (Bor (List ℕ))) (fix : Option Mode) (baseline : Option (Bor (List ℕ))) : Type 0 where
  pub settings_are : AreSettingsOf arguments settings
  pub cited_is : IsDocumentAsked arguments cited
  pub each_is : each ≡ has_flag arguments (codes "each")
  pub conditions_are : map (λ text. text.now) conditions.items ≡ argument_values arguments (codes "where")
  pub input_is : option_map (λ text. text.now) input ≡ argument_value arguments (codes "stdin-filename")
  pub fix_is : fix ≡ fix_asked arguments
  pub baseline_is : option_map (λ text. text.now) baseline ≡ argument_value arguments (codes "baseline")

-- the request prints findings
abbrev pub IsFindingsOf : Arguments → Asked → Type 0
IsFindingsOf arguments (variant.Lint settings cited each conditions input fix baseline) =
    AreOptionsOfFindings arguments settings cited each conditions input fix baseline
IsFindingsOf arguments _ = ⊥

-- the request explains the code that `--explain` names
abbrev pub IsExplanationOf : Arguments → Request → Type 0
IsExplanationOf arguments (request.Explain code) = code_asked arguments ≡ Some code
IsExplanationOf arguments _ = ⊥

-- the request of `lint`. With `--explain` it explains a code. Otherwise it is refused if findings that are mended aren't lines, or else if
-- a word is no rule, and it prints the findings if nothing is wrong
abbrev pub IsLintOf : Arguments → Asked → Type 0
IsLintOf arguments (variant.Other wanted) = IsExplanationOf arguments wanted
IsLintOf arguments (variant.Wrong reason) =
    (code_asked arguments ≡ None) × (has_wrong_format arguments ≡ true) × (reason.now ≡ codes "`--fix` requires `--format text`")
IsLintOf arguments (variant.WrongRule word) =
    (code_asked arguments ≡ None) × (has_wrong_format arguments ≡ false) × (wrong_rule arguments ≡ Some word.now)
IsLintOf arguments (variant.Lint settings cited each conditions input fix baseline) =
    (code_asked arguments ≡ None) × (has_wrong_format arguments ≡ false) × (wrong_rule arguments ≡ None)
    × AreOptionsOfFindings arguments settings cited each conditions input fix baseline
IsLintOf arguments _ = ⊥

-- ---- fmt

-- the choice between two flags; if both are given, the first one takes precedence
abbrev pub choice_of : Bool → Bool → Option Bool
choice_of true second = Some true
choice_of false true = Some false
choice_of false false = None

abbrev pub choice_asked : Arguments → List ℕ → List ℕ → Option Bool
choice_asked arguments first second = choice_of (has_flag arguments first) (has_flag arguments second)

-- a text is an order of entries, and not `keep`
pub record IsOrderIn (text : List ℕ) (order : Order) : Type 0 where
  pub other : bytes_eq text (codes "keep") ≡ false
  pub parts : map Some (order_parts order) ≡ map part_named (comma_words text)

-- `sort` is the order of entries for a value of `--sort`: not set without a value, and no order for `keep`
abbrev pub IsSortOf : Option (List ℕ) → Option (Option Order) → Type 0
IsSortOf value None = value ≡ None
IsSortOf value (Some None) = value ≡ Some (codes "keep")
IsSortOf value (Some (Some order)) = IsSomeAnd value (λ text. IsOrderIn text order)

-- a text is neither an order nor `keep`, for this reason
pub record IsNoOrder (error : OrderError) (text : List ℕ) : Type 0 where
  pub other : bytes_eq text (codes "keep") ≡ false
  pub refused : IsOrderRefused (comma_words text) error

-- a value of `--sort` is wrong, for this reason
abbrev pub IsSortRefused : Option (List ℕ) → OrderError → Type 0
IsSortRefused value error = IsSomeAnd value (IsNoOrder error)

-- the setting for a value of `--blank-lines`: the number of blank lines, or `None` for a word that is no number; not set without a value
abbrev pub blank_lines_asked : Arguments → Option (Option ℕ)
blank_lines_asked arguments = option_map number_in (argument_value arguments (codes "blank-lines"))

-- `settings` are those that the options of `fmt` set, except the order of fields; `sort` is the order of entries
pub record AreStyleSettingsOf (arguments : Arguments) (sort : Option (Option Order)) (settings : StyleSettings) : Type 0 where
  pub indent : settings.indent ≡ argument_number arguments (codes "indent")
  pub aligned : settings.aligned ≡ choice_asked arguments (codes "align") (codes "no-align")
  pub trailing_comma : settings.trailing_comma ≡ choice_asked arguments (codes "trailing-comma") (codes "no-trailing-comma")
  pub blank_lines : settings.blank_lines ≡ blank_lines_asked arguments
  pub delimiters : settings.delimiters ≡ option_and_then delimiters_named (argument_value arguments (codes "delimiters"))
  pub order : settings.order ≡ None
  pub width : settings.width ≡ option_map width_of (argument_number arguments (codes "width"))
  pub sort_is : settings.sort ≡ sort

-- the layout of files that the arguments of `fmt` set
pub record IsLayoutOf (arguments : Arguments) (settings : StyleSettings) (order : Option (Vec (Bor (List ℕ)))) (mode : Mode) : Type 0 where
  pub settings_are : AreStyleSettingsOf arguments settings.sort settings
  pub sort_is : IsSortOf (argument_value arguments (codes "sort")) settings.sort
  pub order_is : option_map (λ names. map (λ name. name.now) names.items) order ≡ given_values arguments (codes "order")
  pub mode_is : mode ≡ mode_asked (has_flag arguments (codes "check")) arguments

-- the request of `fmt`: it is refused if the value of `--sort` is wrong, and otherwise formats files
abbrev pub IsFormatOf : Arguments → Asked → Type 0
IsFormatOf arguments (variant.WrongOrder error) = IsSortRefused (argument_value arguments (codes "sort")) error
IsFormatOf arguments (variant.Format settings order mode) = IsLayoutOf arguments settings order mode
IsFormatOf arguments _ = ⊥

-- ---- convert

-- the dialects by their names
abbrev pub dialects : List (List ℕ × Dialect)
dialects = (codes "biblatex", Biblatex) ∷ (codes "bibtex", Bibtex) ∷ []

-- the other formats of entries by their names, except CSL-JSON, which is the format for any other name
abbrev pub targets : List (List ℕ × Target)
targets = (codes "json", Json) ∷ (codes "ris", Ris) ∷ []

-- the dialect for a value of `--to`, if it names one
abbrev pub dialect_for : Option (List ℕ) → Option Dialect
dialect_for value = option_and_then (value_named dialects) value

-- the case of titles in items: sentence case if it is asked for
abbrev pub title_case : Bool → TitleCase
title_case sentence = if sentence then Sentence else AsWritten

-- the format for a value of `--to` that names no dialect
abbrev pub target_for : TitleCase → Option (List ℕ) → Target
target_for titles value = unwrap_or (option_and_then (value_named targets) value) (Csl titles)

-- the formats of items, records and objects by their names
abbrev pub sources : List (List ℕ × Source)
sources = (codes "csl", source.Csl) ∷ (codes "ris", source.Ris) ∷ (codes "json", source.Json) ∷ []

-- the format of items, records or objects for a value of `--from`, if it names one
abbrev pub source_for : Option (List ℕ) → Option Source
source_for value = option_and_then (value_named sources) value

-- the format of items, records or objects that `--from` names, if it names one
abbrev pub source_asked : Arguments → Option Source
source_asked arguments = source_for (argument_value arguments (codes "from"))

-- whether `--from` is missing, so that the ending of a file's name decides how it is read
abbrev pub is_by_ending : Arguments → Bool
is_by_ending arguments = is_none (argument_value arguments (codes "from"))

-- whether conditions are given
abbrev pub has_conditions : Arguments → Bool
has_conditions arguments = not (length (argument_values arguments (codes "where")) == 0)

-- the reason why a command line is refused that requests this format, and no dialect
abbrev pub dialect_required : Source → List ℕ
dialect_required source.Csl = codes "`--from csl` requires `--to biblatex` or `--to bibtex`"
dialect_required source.Ris = codes "`--from ris` requires `--to biblatex` or `--to bibtex`"
dialect_required source.Json = codes "`--from json` requires `--to biblatex` or `--to bibtex`"

-- the reason why options of `convert` can't be used together: an import needs a dialect, and conditions another format
abbrev pub conversion_refused : Option Source → Option Dialect → Bool → Option (List ℕ)
conversion_refused (Some source) None conditions = Some (dialect_required source)
conversion_refused imports (Some dialect) true = Some (codes "`--where` requires `--to csl`, `--to json` or `--to ris`")
conversion_refused _ _ _ = None

-- the dialect that `--to` names, if it names one
abbrev pub dialect_asked : Arguments → Option Dialect
dialect_asked arguments = dialect_for (argument_value arguments (codes "to"))

-- the reason why the formats and the conditions of `convert` can't be used together
abbrev pub wrong_formats : Arguments → Option (List ℕ)
wrong_formats arguments = conversion_refused (source_asked arguments) (dialect_asked arguments) (has_conditions arguments)

-- whether a value of `--to` means CSL-JSON, which is the format without a value
abbrev pub is_csl : Option (List ℕ) → Bool
is_csl value = option_map_or (λ name. bytes_eq name (codes "csl")) value true

-- whether sentence case is asked for, and the format isn't CSL-JSON
abbrev pub is_case_wrong : Arguments → Bool
is_case_wrong arguments = has_flag arguments (codes "sentence-case") && not (is_csl (argument_value arguments (codes "to")))

-- the reason why sentence case can't be used, if it can't
abbrev pub case_refused : Bool → Option (List ℕ)
case_refused wrong = if wrong then Some (codes "`--sentence-case` requires `--to csl`") else None

-- the reason why the options of `convert` can't be used together
abbrev pub wrong_conversion : Arguments → Option (List ℕ)
wrong_conversion arguments = option_or (case_refused (is_case_wrong arguments)) (wrong_formats arguments)

-- the request of `convert`; `wrong` is the reason why its options can't be used together, if there is one. If `--to` names a dialect,
-- entries are imported from items, records or objects, or files are rewritten. Otherwise the entries that meet the conditions are printed
-- in another format
abbrev pub IsConversionOf : Option (List ℕ) → Arguments → Asked → Type 0
IsConversionOf wrong arguments (variant.Wrong reason) = wrong ≡ Some reason.now
IsConversionOf wrong arguments (variant.Import dialect from) =
    (wrong ≡ None) × (source_asked arguments ≡ Some from) × (dialect_asked arguments ≡ Some dialect)
IsConversionOf wrong arguments (variant.Rewrite dialect by_ending) =
    (wrong ≡ None) × (source_asked arguments ≡ None) × (dialect_asked arguments ≡ Some dialect) × (by_ending ≡ is_by_ending arguments)
IsConversionOf wrong arguments (variant.Convert converting) =
    (wrong ≡ None) × (dialect_asked arguments ≡ None)
    × (converting.target
    ≡ target_for (title_case (has_flag arguments (codes "sentence-case"))) (argument_value arguments (codes "to")))
    × (map (λ text. text.now) converting.conditions.items ≡ argument_values arguments (codes "where"))
IsConversionOf wrong arguments _ = ⊥

-- the request of `convert`
abbrev pub IsConvertOf : Arguments → Asked → Type 0
IsConvertOf arguments asked = IsConversionOf (wrong_conversion arguments) arguments asked

-- ---- keys, get, grep, select, resolve, cited, stats, diff and merge

-- the conditions of a request are those that the arguments give
abbrev pub AreConditionsOf : Arguments → List (Bor (List ℕ)) → Type 0
AreConditionsOf arguments conditions = map (λ text. text.now) conditions ≡ argument_values arguments (codes "where")

-- the request of `keys`: the keys of all entries, or with conditions those of the entries that meet them
abbrev pub IsKeysOf : Arguments → Asked → Type 0
IsKeysOf arguments (variant.Other wanted) = (has_conditions arguments ≡ false) × (wanted ≡ request.Entries excerpt.Keys)
IsKeysOf arguments (variant.Entries conditions keys) =
    (has_conditions arguments ≡ true) × AreConditionsOf arguments conditions.items × (keys ≡ None)
IsKeysOf arguments _ = ⊥

-- the request for the entries with the keys that the arguments give
abbrev pub IsGetAllOf : Arguments → Request → Type 0
IsGetAllOf arguments (request.Entries (excerpt.Get keys)) = map (λ key. key.now) keys.items ≡ argument_values arguments (codes "KEYS")
IsGetAllOf arguments _ = ⊥

-- the request of `get`: the entries with keys, or with conditions those of them that meet the conditions
abbrev pub IsGetOf : Arguments → Asked → Type 0
IsGetOf arguments (variant.Other wanted) = (has_conditions arguments ≡ false) × IsGetAllOf arguments wanted
IsGetOf arguments (variant.Entries conditions keys) =
    (has_conditions arguments ≡ true) × AreConditionsOf arguments conditions.items
    × (option_map (λ keys. map (λ key. key.now) keys.items) keys ≡ Some (argument_values arguments (codes "KEYS")))
IsGetOf arguments _ = ⊥

-- the request of `grep`: the entries with a text in a field
abbrev pub IsSearchOf : Arguments → Asked → Type 0
IsSearchOf arguments (variant.Other (request.Entries (excerpt.Grep search))) =
    (search.field.now ≡ unwrap_or (argument_value arguments (codes "FIELD")) [])
    × (search.part.now ≡ unwrap_or (argument_value arguments (codes "TEXT")) [])
IsSearchOf arguments _ = ⊥

-- the request of `select`: the entries that the conditions select; with `--complete` also what they use, with `--keys` only the keys
abbrev pub IsSelectOf : Arguments → Asked → Type 0
IsSelectOf arguments (variant.Select selecting) =
    AreConditionsOf arguments selecting.conditions.items × (selecting.printed.is_complete ≡ has_flag arguments (codes "complete"))
    × (selecting.printed.has_keys ≡ has_flag arguments (codes "keys"))
IsSelectOf arguments _ = ⊥

-- the request of `resolve`
abbrev pub IsResolveOf : Arguments → Asked → Type 0
IsResolveOf arguments (variant.Resolve mode notes) =
    (mode ≡ mode_asked false arguments) × (notes ≡ has_flag arguments (codes "not-inherited"))
IsResolveOf arguments _ = ⊥

-- the request of `cited`: the entries that a document cites
abbrev pub IsCitedOf : Arguments → Asked → Type 0
IsCitedOf arguments (variant.Cited document) = document.now ≡ unwrap_or (argument_value arguments (codes "DOCUMENT")) []
IsCitedOf arguments _ = ⊥

-- the formats of changes by their names, except lines, which are the format for any other name
abbrev pub change_formats : List (List ℕ × Format)
change_formats = (codes "json", changes.Json) ∷ []

-- the format for a value of `--format` of `diff`
abbrev pub change_format : Option (List ℕ) → Format
change_format value = unwrap_or (option_and_then (value_named change_formats) value) changes.Text

-- the request of `diff`
abbrev pub IsDiffOf : Arguments → Asked → Type 0
IsDiffOf arguments (variant.Diff diffing) =
    (diffing.format ≡ change_format (argument_value arguments (codes "format"))) × (diffing.is_git ≡ has_flag arguments (codes "git"))
IsDiffOf arguments _ = ⊥

-- the request of `merge`: the name in messages, the number of signs in a marker line, and how the text is used
pub record IsMergingOf (arguments : Arguments) (merging : Merging) : Type 0 where
  pub path_is : option_map (λ name. name.now) merging.path ≡ argument_value arguments (codes "path")
  pub size_is : merging.marker_size ≡ unwrap_or (argument_number arguments (codes "marker-size")) 7
  pub written_is : merging.is_written ≡ has_flag arguments (codes "write")
  pub install_is : merging.is_install ≡ has_flag arguments (codes "install")

abbrev pub IsMergeOf : Arguments → Asked → Type 0
IsMergeOf arguments (variant.Merge merging) = IsMergingOf arguments merging
IsMergeOf arguments _ = ⊥

-- ---- the command by its name

-- the request of a command that reads files
abbrev pub IsAskedBy : ReadingCommand → Arguments → Asked → Type 0
IsAskedBy command.Lint arguments this = IsLintOf arguments this
IsAskedBy command.Fmt arguments this = IsFormatOf arguments this
IsAskedBy command.Convert arguments this = IsConvertOf arguments this
IsAskedBy command.Resolve arguments this = IsResolveOf arguments this
IsAskedBy command.Get arguments this = IsGetOf arguments this
IsAskedBy command.Grep arguments this = IsSearchOf arguments this
IsAskedBy command.Cited arguments this = IsCitedOf arguments this
IsAskedBy command.Select arguments this = IsSelectOf arguments this
IsAskedBy command.Stats arguments this = this ≡ variant.Other request.Stats
IsAskedBy command.Diff arguments this = IsDiffOf arguments this
IsAskedBy command.Merge arguments this = IsMergeOf arguments this
IsAskedBy command.Keys arguments this = IsKeysOf arguments this

-- the names of the files of a command: `-` (standard input) if none is given, except for `cited`
abbrev pub files_of : List ℕ → Arguments → List (List ℕ)
files_of name arguments =
    let files = argument_values arguments (codes "FILE") in
    if length files == 0 && not (bytes_eq name (codes "cited")) then codes "-" ∷ [] else files
