-- Machinery: words of private contracts.
-- How often texts occur.
use Rattle.std.specs.Prelude.{◌≡◌, ℕ, List, bytes_eq, count_by, unwrap_or}
use Rattle.std.specs.FinMap.{get}
use Rattle.bib_collections.specs.Sorted.{ByText}

-- each text points to the number of these texts that are equal to it, or to nothing if there is none
abbrev pub AreCounts : List (List ℕ) → ByText ℕ → Type 0
AreCounts texts counts = (text : List ℕ) → unwrap_or (get counts text) 0 ≡ count_by (bytes_eq text) texts
