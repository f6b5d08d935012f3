use Rattle.std.proofs.Common.{◌≡◌, map, take}
use Rattle.std.specs.String.{string_bytes}
use Rattle.bib_syntax.specs.Views.{entry_reading_of}
use Rattle.bib_queries.specs.Answers.{has_key, passing_lines}
use Rattle.bib_queries.proofs.excerpts.get.Given as goal

abbrev pub invariant-entries : goal.invariant-entries
invariant-entries l =
    string_bytes l.printed
    ≡ passing_lines (has_key (map (λ key. key.now) l.keys)) l.text
    (map entry_reading_of (take l.entry-index l.entries))
