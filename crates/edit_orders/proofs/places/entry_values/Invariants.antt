use Rattle.std.proofs.Common.{◌≡◌, take}
use Rattle.bib_abbreviations.specs.Abbreviations.{given_by}
use Rattle.bib_syntax.specs.Views.{entry_reading_of}
use Rattle.edit_orders.specs.Places.{AreValuesOf}
use Rattle.edit_orders.proofs.places.entry_values.Given as goal

-- the values so far are those of the first properties
abbrev pub invariant-order : goal.invariant-order
invariant-order l =
    (l.reader ≡ l.initial.reader)
    × AreValuesOf (given_by l.initial.reader) (take l.by-index l.order) (entry_reading_of l.entry) l.values.items
