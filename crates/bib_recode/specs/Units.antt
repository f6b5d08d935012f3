-- Meaning: words of public contracts.
-- Units of UTF-16 and their bytes, as the Unicode Standard defines them.
use Rattle.std.specs.Prelude.{◌≡◌, ℕ, ◌+◌, ◌*◌, ◌/◌, ◌<◌, ◌&&◌, ◌||◌, Bool, true, false, not, List, [], ◌∷◌, drop, if◌then◌else◌, length, map, slice_index, take}
use Rattle.std.specs.Char.Utf16.{has_unpaired_surrogate, is_high_surrogate, is_low_surrogate}
use Rattle.std.specs.List.{range_with_len}

-- the unit of two bytes: the first one is the high byte if the flag is true
abbrev pub unit : Bool → ℕ → ℕ → ℕ
unit is_big_endian first second = if is_big_endian then first * 256 + second else second * 256 + first

-- the unit at an index of bytes, two bytes for each
abbrev pub unit_at : Bool → List ℕ → ℕ → ℕ
unit_at is_big_endian bytes index = unit is_big_endian (slice_index bytes (2 * index)) (slice_index bytes (2 * index + 1))

-- the units of bytes, without an odd byte at the end
abbrev pub units_of : Bool → List ℕ → List ℕ
units_of is_big_endian bytes = map (unit_at is_big_endian bytes) (range_with_len 0 (length bytes / 2))

-- whether two units are a pair, which is one character
abbrev pub is_surrogate_pair : ℕ → ℕ → Bool
is_surrogate_pair first second = is_high_surrogate first && is_low_surrogate second

-- the number of units of the first character: 2 for a pair, otherwise 1
abbrev pub character_len : List ℕ → ℕ
character_len [] = 1
character_len (u ∷ []) = 1
character_len (u ∷ v ∷ us) = if is_surrogate_pair u v then 2 else 1

-- whether a unit is a surrogate
abbrev pub is_surrogate : ℕ → Bool
is_surrogate u = is_high_surrogate u || is_low_surrogate u

-- the unit at the start of units is a surrogate without a partner: no character begins with it
abbrev pub begins_unpaired : List ℕ → Bool
begins_unpaired [] = false
begins_unpaired (u ∷ []) = is_surrogate u
begins_unpaired (u ∷ v ∷ us) = is_surrogate u && not (is_surrogate_pair u v)

-- the unit at an index is the first surrogate without a partner: the units before it spell characters
pub record IsFirstUnpaired (units : List ℕ) (index : ℕ) : Type 0 where
  pub within : index < length units
  pub before : has_unpaired_surrogate (take index units) ≡ false
  pub unpaired : begins_unpaired (drop index units) ≡ true
