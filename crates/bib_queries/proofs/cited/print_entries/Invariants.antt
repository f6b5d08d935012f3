use Rattle.std.proofs.Common.{◌≡◌, ◌++◌, map, take, length}
use Rattle.std.specs.List.{flat_map}
use Rattle.std.specs.String.{string_bytes}
use Rattle.bib_syntax.specs.Views.{entry_reading_of}
use Rattle.bib_queries.specs.Cited.{entry_line}
use Rattle.bib_queries.specs.Needed.{with_marks}
use Rattle.bib_queries.proofs.cited.print_entries.Given as goal

abbrev pub invariant-entries : goal.invariant-entries
invariant-entries l =
    string_bytes l.printed
    ≡ string_bytes l.initial.printed
    ++ flat_map (entry_line l.line_end l.text)
    (with_marks (take (length l.yielded) l.marks) (map entry_reading_of (take (length l.yielded) l.entries)))
