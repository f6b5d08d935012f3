-- Meaning: words of public contracts.
-- The keys of entries.
use Rattle.std.specs.Prelude.{◌≤◌, ℕ, List, length, map}
use Rattle.std.specs.List.{AllByRecursion, flat_map}
use Rattle.edit_units.specs.Units.{UnitReading}

-- the keys of the entries in these units, in order
abbrev pub keys_of_units : List UnitReading → List (List ℕ)
keys_of_units units = flat_map (λ u. map (λ e. e.key.text) u.says.entries) units

-- no unit has several entries
abbrev pub HaveFewEntries : List UnitReading → Type 0
HaveFewEntries units = AllByRecursion (λ u. length u.says.entries ≤ 1) units
