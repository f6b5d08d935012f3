use Rattle.std.proofs.Common.{◌≡◌, map, take}
use Rattle.std.specs.String.{string_bytes}
use Rattle.bib_syntax.specs.Views.{entry_reading_of}
use Rattle.bib_queries.specs.Answers.{is_found_in, passing_lines}
use Rattle.bib_queries.proofs.excerpts.grep.Given as goal

abbrev pub invariant-entries : goal.invariant-entries
invariant-entries l =
    string_bytes l.printed
    ≡ passing_lines (is_found_in l.search.field.now l.search.part.now) l.text
    (map entry_reading_of (take l.entry-index l.entries))
