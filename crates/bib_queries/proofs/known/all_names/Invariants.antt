use Rattle.std.proofs.Common.{◌≡◌, map, take}
use Rattle.bib_syntax.specs.Views.{entry_reading_of}
use Rattle.bib_queries.specs.Known.{all_names}
use Rattle.bib_queries.specs.Texts.{text_list}
use Rattle.bib_queries.proofs.known.all_names.Given as goal

abbrev pub invariant-entries : goal.invariant-entries
invariant-entries l = text_list l.names ≡ all_names (map entry_reading_of (take l.entry-index l.entries))
