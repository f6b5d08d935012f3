use Rattle.std.proofs.Common.{List, ℕ, ◌++◌, ◌≤◌, drop, length}
use Rattle.std.specs.String.{string_bytes}
use Rattle.bibkit_core.specs.Database.{AreFilesPrinted, no_findings}
use Rattle.bibkit_core.specs.declared.tally.Tally.{Tally}
use Rattle.bibkit_core.proofs.database.print_files.Given as goal

-- whatever the output for the remaining files is, the output for all files begins with the text that is printed so far
abbrev pub invariant-files : goal.invariant-files
invariant-files l =
    ((rest : List ℕ) (after : Tally)
    → AreFilesPrinted l.lint l.start (drop l.index l.files) (drop l.index l.ends) (drop l.first l.found) l.printed.tally rest after
    → AreFilesPrinted l.lint 0 l.files l.ends l.found no_findings (string_bytes l.printed.text ++ rest) after)
    × (l.first ≤ length l.found)
