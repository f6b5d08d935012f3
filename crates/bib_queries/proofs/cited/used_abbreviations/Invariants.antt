use Rattle.std.proofs.Common.{◌≡◌, ◌++◌, map, take, length}
use Rattle.bib_syntax.specs.Views.{entry_reading_of}
use Rattle.bib_queries.specs.Cited.{used_in_entries}
use Rattle.bib_queries.specs.Needed.{with_marks}
use Rattle.bib_queries.specs.Texts.{text_list}
use Rattle.bib_queries.proofs.cited.used_abbreviations.Given as goal

abbrev pub invariant-entries : goal.invariant-entries
invariant-entries l =
    text_list l.names
    ≡ text_list l.initial.names
    ++ used_in_entries
    (with_marks (take (length l.yielded) l.marks) (map entry_reading_of (take (length l.yielded) l.entries)))
