use Rattle.std.proofs.Common.{◌≡◌, map, take}
use Rattle.std.specs.String.{string_bytes}
use Rattle.bib_syntax.specs.Views.{entry_reading_of}
use Rattle.bib_queries.specs.Answers.{lines_of_keys}
use Rattle.bib_queries.proofs.excerpts.key_lines.Given as goal

abbrev pub invariant-entries : goal.invariant-entries
invariant-entries l = string_bytes l.printed ≡ lines_of_keys (map entry_reading_of (take l.entry-index l.entries))
