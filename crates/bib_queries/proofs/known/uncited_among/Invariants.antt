use Rattle.std.proofs.Common.{◌≡◌, ℕ, List, map, take}
use Rattle.bib_syntax.specs.Views.{entry_reading_of, part_of}
use Rattle.bib_queries.specs.Known.{uncited_keys}
use Rattle.bib_queries.specs.Needed.{is_listed}
use Rattle.bib_queries.specs.Sets.{is_in_set}
use Rattle.bib_queries.proofs.known.uncited_among.Given as goal

abbrev pub invariant-entries : goal.invariant-entries
invariant-entries l =
    (keys : List (List ℕ)) → ((name : List ℕ) → is_in_set l.set name ≡ is_listed keys name)
    → map part_of l.found.items ≡ uncited_keys keys (map entry_reading_of (take l.entry-index l.entries))
