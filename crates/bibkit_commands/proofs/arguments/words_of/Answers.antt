use Rattle.std.proofs.Common.{refl}
use Rattle.bibkit_commands.specs.CommandLine.IsCommandOf.{edits_file}
use Rattle.bibkit_commands.proofs.arguments.words_of.Goals as goal

pub returns-then-is_editing : goal.returns-then-is_editing
returns-then-is_editing c = edits_file c.in_ok-editing.editing refl c.in_ok-editing.ensures c.new.ensures.items
