-- Meaning: words of public contracts.
-- The graphs of the code, and the errors of a topological order.
use Rattle.std.specs.Prelude.{ℕ, List, map}
use Rattle.std.specs.declared.alloc.Global.{Global}
use Rattle.std.specs.declared.vec.Vec.{Vec}
use Rattle.bib_collections.specs.declared.worklist.OrderError.{OrderError}
use Rattle.bib_collections.specs.declared.worklist.OrderError.TheVariants.{OutOfMemory, Cycle}
use Rattle.bib_collections.specs.Graph.{Graph, IsFirstOnCycle}

-- the graph whose rows are the elements of the vectors
abbrev pub rows : List (Vec ℕ Global) → Graph
rows refs = map (λ row. row.items) refs

-- the statement of an error about the graph: for `Cycle`, that its index is the first on a cycle; for `OutOfMemory`, nothing
abbrev pub IsOrderError : Graph → OrderError → Type 0
IsOrderError graph OutOfMemory = Unit {0}
IsOrderError graph (Cycle index) = IsFirstOnCycle graph index
