-- Meaning: words of public contracts.
-- The name of an entry in messages.
use Rattle.std.specs.Prelude.{ℕ, ◌==◌, List, codes, if◌then◌else◌, length}

-- the name of an entry in messages: its key, or words for an empty key
abbrev pub entry_name : List ℕ → List ℕ
entry_name key = if length key == 0 then codes "an entry without a key" else key
