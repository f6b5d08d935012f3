use Rattle.std.proofs.Common.{◌≡◌, ℕ, List, Some, None, cond, map, take}
use Rattle.bib_queries.specs.Needed.{is_listed}
use Rattle.std.specs.Option.{option_or}
use Rattle.edit_entries.specs.NewKeys.{index_for}
use Rattle.edit_entries.proofs.new_keys.give_indices.Given as goal

-- the names so far have the index, unless they had one
abbrev pub invariant-names : goal.invariant-names
invariant-names l =
    (other : List ℕ) → index_for l.indices other
    ≡ option_or (index_for l.initial.indices other)
    (cond (is_listed (map (λ n. n.now) (take l.name-index l.names)) other) (Some l.index) None)
