-- Meaning: words of public contracts.
-- The request and the files of a command line.
use Rattle.std.specs.Prelude.{◌≡◌, ℕ, List, [], map, Option, Some, None}
use Rattle.bib_queries.specs.declared.request.Request.TheVariants as excerpt
use Rattle.bibkit_core.specs.declared.request.Request.TheVariants as request
use Rattle.bibkit_commands.specs.Arguments.{Arguments}
use Rattle.bibkit_commands.specs.Asked.{IsAskedBy, files_of}
use Rattle.bibkit_commands.specs.Commands.{reading_command_named}
use Rattle.bibkit_commands.specs.EditsAsked.{IsEditingOf}
use Rattle.bibkit_commands.specs.declared.arguments.Asked.TheVariants as variant
use Rattle.bibkit_commands.specs.declared.arguments.Words.{Words}
use Rattle.bibkit_commands.specs.declared.edits.Editing.{Editing}

-- the request of the command with this name and these arguments: edits of one file, or a request for files
pub data IsCommandOf (name : List ℕ) (arguments : Arguments) (words : Words) : Type 0 where
  edits_file : (editing : Editing) → words.asked ≡ variant.Edits editing → IsEditingOf name arguments editing → words.names.items ≡ []
      → IsCommandOf name arguments words
  reads_files : IsAskedBy (reading_command_named name) arguments words.asked
      → map (λ file. file.now) words.names.items ≡ files_of name arguments
      → IsCommandOf name arguments words

-- the request of a command line, by the name and the arguments of its command; without a command the keys of no files
abbrev pub IsCommandLineOf : Option (List ℕ × Arguments) → Words → Type 0
IsCommandLineOf (Some command) words = IsCommandOf command.0 command.1 words
IsCommandLineOf None words = (words.asked ≡ variant.Other (request.Entries excerpt.Keys)) × (words.names.items ≡ [])
