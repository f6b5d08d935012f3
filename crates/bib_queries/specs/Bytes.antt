-- Meaning: words of public contracts.
-- Bytes of a text at byte offsets.
use Rattle.std.specs.Prelude.{ℕ, ◌==◌, Bool, false, List, slice_get}
use Rattle.std.specs.List.{list_any}
use Rattle.std.specs.Option.{option_map_or}
use Rattle.bib_text.specs.Characters as char
use Rattle.bib_text.specs.Places.{between, place}

-- whether a text has a byte at a byte offset
abbrev pub has_byte_at : List ℕ → ℕ → ℕ → Bool
has_byte_at text at c = option_map_or (λ b. b == c) (slice_get text at) false

-- whether a percent sign occurs between two byte offsets
abbrev pub has_percent : List ℕ → ℕ → ℕ → Bool
has_percent text start end = list_any (λ b. b == char.percent) (between (place text start) (place text end))
