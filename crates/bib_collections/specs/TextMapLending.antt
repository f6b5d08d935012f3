-- Meaning: words of public contracts.
-- Maps by text whose values are mutably borrowed.
use Rattle.std.specs.Prelude.{ℕ, List, Option}
use Rattle.std.specs.Borrow.{LendsIf, MutBor, Fml, RattleType}
use Rattle.std.specs.FinMap.{insert}
use Rattle.bib_collections.specs.Sorted.{ByText}
use Rattle.bib_collections.specs.contracts.text_map.TextMap.{the_row}

-- when the borrow ends, `name` has the final value of the reference in the map; if there is no reference, the map is unchanged
abbrev pub LendsValue : (V : RattleType) → MutBor (ByText V.Denot) → List ℕ → Option (MutBor V.Denot) → Fml
LendsValue V map name value = LendsIf (the_row V) V map value (insert map.now name) map.now
