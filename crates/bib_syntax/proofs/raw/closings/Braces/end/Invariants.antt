use Rattle.std.proofs.Common.{List, ℕ, length, reverse}
use Rattle.bib_text.specs.Places.{Place, AtEnd}
use Rattle.bib_syntax.specs.Closings.{AreClosings}
use Rattle.bib_syntax.specs.OpenBraces.{AreBracesAt, AreOpen}
use Rattle.bib_syntax.proofs.raw.closings.Braces.end.Given as goal

abbrev pub invariant-opened : goal.invariant-opened
invariant-opened l = (text : List ℕ) (here : Place) → AtEnd here → AreBracesAt text l.fn.self.opened.items l.fn.self.found.items here
    → AreClosings text l.self.found.items × ((n : ℕ) × AreOpen text n (reverse l.self.opened.items) here)

abbrev pub decreases-opened : goal.decreases-opened
decreases-opened l = length l.self.opened.items
