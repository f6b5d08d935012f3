-- Meaning: words of public contracts.
-- Iterators over the names and the values of a map by text.
use Rattle.std.specs.Prelude.{ℕ, List, map}
use Rattle.std.specs.Slice.Iter.{iter_rest}
use Rattle.bib_collections.specs.declared.text_map.Keys.{Keys}
use Rattle.bib_collections.specs.declared.text_map.Values.{Values}

-- the names that the iterator hasn't returned yet
abbrev pub names_left : {V : Type 0} → Keys V → List (List ℕ)
names_left names = map (λ pair. pair.0) (iter_rest names.pairs)

-- the values that the iterator hasn't returned yet
abbrev pub values_left : {V : Type 0} → Values V → List V
values_left values = map (λ pair. pair.1) (iter_rest values.pairs)
