use Rattle.std.proofs.Common.{◌≡◌, ◌++◌, map, take, length}
use Rattle.std.specs.List.{flat_map}
use Rattle.std.specs.String.{string_bytes}
use Rattle.bib_syntax.specs.Views.{field_of}
use Rattle.bib_queries.specs.Cited.{definition_line}
use Rattle.bib_queries.specs.Needed.{with_marks}
use Rattle.bib_queries.proofs.cited.print_definitions.Given as goal

abbrev pub invariant-pairs : goal.invariant-pairs
invariant-pairs l =
    string_bytes l.printed
    ≡ string_bytes l.initial.printed
    ++ flat_map (definition_line l.line_end l.text)
    (with_marks (take (length l.yielded) l.marks) (map field_of (take (length l.yielded) l.pairs)))
