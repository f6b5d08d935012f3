use Rattle.std.proofs.Common.{◌≡◌, take, map}
use Rattle.std.specs.List.{AllZip}
use Rattle.bib_abbreviations.specs.Abbreviations.{given_by}
use Rattle.bib_syntax.specs.Views.{entry_reading_of}
use Rattle.edit_orders.specs.Places.{AreValuesOf}
use Rattle.edit_orders.proofs.places.all_values.Given as goal

-- the lists so far are the values of the first entries
abbrev pub invariant-entries : goal.invariant-entries
invariant-entries l =
    (l.reader ≡ l.initial.reader)
    × AllZip (AreValuesOf (given_by l.initial.reader) l.order) (map entry_reading_of (take l.entry-index l.entries)) l.all.items
