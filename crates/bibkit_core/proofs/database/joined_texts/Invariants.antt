use Rattle.std.proofs.Common.{◌≡◌, take}
use Rattle.bibkit_core.specs.Database.{joined_texts}
use Rattle.bibkit_core.proofs.database.joined_texts.Given as goal

abbrev pub invariant-files : goal.invariant-files
invariant-files l = l.texts ≡ joined_texts (take l.file-index l.files)
