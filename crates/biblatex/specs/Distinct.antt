-- Machinery: words of private contracts.
-- Repeated keys.
use Rattle.std.specs.Prelude.{ℕ, ◌+◌, Bool, ◌||◌, List, [], take, drop, bytes_eq, slice_index_or}
use Rattle.std.specs.List.{list_any}

-- whether the key at an index also occurs at another index
abbrev pub stands_elsewhere : List (List ℕ) → ℕ → Bool
stands_elsewhere keys index =
    list_any (bytes_eq (slice_index_or keys index [])) (take index keys)
    || list_any (bytes_eq (slice_index_or keys index [])) (drop (index + 1) keys)
