-- Machinery: words of private contracts.
-- The errors of a topological order as errors of resolving.
use Rattle.bib_collections.specs.declared.worklist.OrderError.{OrderError}
use Rattle.bib_collections.specs.declared.worklist.OrderError.TheVariants as order
use Rattle.edit_resolve.specs.declared.errors.ResolveError.{ResolveError}
use Rattle.edit_resolve.specs.declared.errors.ResolveError.TheVariants.{Cycle, OutOfMemory}

-- the error for an error of the topological order
abbrev pub resolve_error : OrderError → ResolveError
resolve_error order.OutOfMemory = OutOfMemory
resolve_error (order.Cycle index) = Cycle index
