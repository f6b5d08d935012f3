-- Machinery: words of private contracts.
-- Lines, in the types of the code.
use Rattle.std.specs.Prelude.{ℕ, List, map}
use Rattle.std.specs.Borrow.{Bor}

-- the texts that are borrowed
abbrev pub lent_lines : List (Bor (List ℕ)) → List (List ℕ)
lent_lines lines = map (λ l. l.now) lines
