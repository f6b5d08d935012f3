-- Meaning: words of public contracts.
-- Settings of `lint`, from the command line or from bibkit.toml, and the parts of the request for `lint` that depend on them.
use Rattle.std.specs.Prelude.{ℕ, Bool, true, false, List, [], ◌∷◌, Option, Some, None, bytes_eq, codes, find}
use Rattle.std.specs.Global.{Vec}
use Rattle.std.specs.Option.{option_map_or, option_or}
use Rattle.bibkit_core.specs.declared.request.FailOn.{FailOn}
use Rattle.bibkit_core.specs.declared.request.FailOn.TheVariants as fail_on
use Rattle.bibkit_core.specs.declared.request.Style.{Style}
use Rattle.bibkit_core.specs.declared.request.Style.TheVariants as style
use Rattle.bibkit_core.specs.declared.rules.Rule.{Rule}
use Rattle.bibkit_settings.specs.declared.settings.Color.{Color}
use Rattle.bibkit_settings.specs.declared.settings.Color.TheVariants.{Auto, Always, Never}
use Rattle.bibkit_settings.specs.declared.settings.OutputFormat.{OutputFormat}
use Rattle.bibkit_settings.specs.declared.settings.OutputFormat.TheVariants.{Text, Json, JsonLines, Github, Checkstyle, Sarif}
use Rattle.bibkit_settings.specs.declared.settings.Settings.{Settings}

-- the name of a setting for colours
abbrev pub color_name : Color → List ℕ
color_name Auto = codes "auto"
color_name Always = codes "always"
color_name Never = codes "never"

-- all settings for colours, in the order in which they are listed
abbrev pub all_colors : List Color
all_colors = Auto ∷ Always ∷ Never ∷ []

-- the setting for colours with a name, or `None` if none has it
abbrev pub color_named : List ℕ → Option Color
color_named name = find (λ color. bytes_eq (color_name color) name) all_colors

-- the name of a format of findings
abbrev pub format_name : OutputFormat → List ℕ
format_name Text = codes "text"
format_name Json = codes "json"
format_name JsonLines = codes "jsonl"
format_name Github = codes "github"
format_name Checkstyle = codes "checkstyle"
format_name Sarif = codes "sarif"

-- all formats of findings, in the order in which they are listed
abbrev pub all_formats : List OutputFormat
all_formats = Text ∷ Json ∷ JsonLines ∷ Github ∷ Checkstyle ∷ Sarif ∷ []

-- the format of findings with a name, or `None` if none has it
abbrev pub format_named : List ℕ → Option OutputFormat
format_named name = find (λ format. bytes_eq (format_name format) name) all_formats

-- the name of a setting for the status of `lint`
abbrev pub fail_on_name : FailOn → List ℕ
fail_on_name fail_on.Error = codes "error"
fail_on_name fail_on.Warning = codes "warning"
fail_on_name fail_on.Info = codes "info"
fail_on_name fail_on.Never = codes "never"

-- all settings for the status of `lint`, in the order in which they are listed
abbrev pub all_fail_on : List FailOn
all_fail_on = fail_on.Error ∷ fail_on.Warning ∷ fail_on.Info ∷ fail_on.Never ∷ []

-- the setting for the status of `lint` with a name, or `None` if none has it
abbrev pub fail_on_named : List ℕ → Option FailOn
fail_on_named name = find (λ setting. bytes_eq (fail_on_name setting) name) all_fail_on

-- settings of which none is set
abbrev pub no_settings : Settings
no_settings = record { only = None; ignored = None; color = None; format = None; fail_on = None }

-- the settings `given` on the command line, with those of the project for each that isn't set; a list of rules of the command line
-- replaces the list of the project, and isn't joined with it
abbrev pub over : Settings → Settings → Settings
over given project =
    record {
      only = option_or given.only project.only;
      ignored = option_or given.ignored project.ignored;
      color = option_or given.color project.color;
      format = option_or given.format project.format;
      fail_on = option_or given.fail_on project.fail_on;
    }

-- the rules of a list, or no rules if the list isn't set
abbrev pub listed_rules : Option (Vec Rule) → List Rule
listed_rules set = option_map_or (λ rules. rules.items) set []

-- whether colours are printed: true for `Always`, false for `Never`, and otherwise the second argument
abbrev pub is_colored : Option Color → Bool → Bool
is_colored (Some Always) are_shown = true
is_colored (Some Never) are_shown = false
is_colored _ are_shown = are_shown

-- the style of findings as lines, with or without colours
abbrev pub line_style : Bool → Style
line_style true = style.Colored
line_style false = style.Plain

-- the style of findings in a format (lines if it isn't set), with or without colours; only lines have colours
abbrev pub style_of : Option OutputFormat → Bool → Style
style_of (Some Json) colored = style.Json
style_of (Some JsonLines) colored = style.JsonLines
style_of (Some Github) colored = style.Github
style_of (Some Checkstyle) colored = style.Checkstyle
style_of (Some Sarif) colored = style.Sarif
style_of _ colored = line_style colored
