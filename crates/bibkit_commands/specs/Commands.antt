-- Meaning: words of public contracts.
-- The commands by their names.
use Rattle.std.specs.Prelude.{ℕ, List, [], ◌∷◌, codes, unwrap_or}
use Rattle.bib_text.specs.Enums.{value_named}
use Rattle.bibkit_commands.specs.declared.reading_arguments.ReadingCommand.{ReadingCommand}
use Rattle.bibkit_commands.specs.declared.reading_arguments.ReadingCommand.TheVariants.{Lint, Fmt, Convert, Resolve, Get, Grep, Cited, Select, Stats, Diff, Merge, Keys}

-- the commands that read files by their names, except `keys`
abbrev pub commands : List (List ℕ × ReadingCommand)
commands =
    (codes "lint", Lint) ∷ (codes "fmt", Fmt) ∷ (codes "convert", Convert) ∷ (codes "resolve", Resolve) ∷ (codes "get", Get)
    ∷ (codes "grep", Grep) ∷ (codes "cited", Cited) ∷ (codes "select", Select) ∷ (codes "stats", Stats) ∷ (codes "diff", Diff)
    ∷ (codes "merge", Merge) ∷ []

-- the command that reads files with this name; any other name is that of `keys`
abbrev pub reading_command_named : List ℕ → ReadingCommand
reading_command_named name = unwrap_or (value_named commands name) Keys

-- the commands that edit a file
pub data EditCommand : Type 0 where
  set_command : EditCommand
  unset_command : EditCommand
  remove_command : EditCommand
  rename_command : EditCommand
  strings_command : EditCommand
  edit_command : EditCommand
  rekey_command : EditCommand
  recode_command : EditCommand
  add_command : EditCommand

-- the commands that edit a file by their names, except `add`
abbrev pub edit_commands : List (List ℕ × EditCommand)
edit_commands =
    (codes "set", set_command) ∷ (codes "unset", unset_command) ∷ (codes "remove", remove_command) ∷ (codes "strings", strings_command)
    ∷ (codes "edit", edit_command) ∷ (codes "rekey", rekey_command) ∷ (codes "recode", recode_command)
    ∷ (codes "rename", rename_command) ∷ []

-- the command that edits a file with this name; any other name is that of `add`
unfoldable pub editing_command_named : List ℕ → EditCommand
editing_command_named name = unwrap_or (value_named edit_commands name) add_command
