-- Meaning: words of public contracts.
-- The iterator over the keys of entries.
use Rattle.std.specs.Prelude.{ℕ, List, map}
use Rattle.std.specs.Slice.Iter.{iter_rest}
use Rattle.biblatex.specs.declared.bibliography.Keys.{Keys}

-- the keys that the iterator has not yet returned, in order
abbrev pub keys_left : Keys → List (List ℕ)
keys_left keys = map (λ e. e.key) (iter_rest keys.entries)
