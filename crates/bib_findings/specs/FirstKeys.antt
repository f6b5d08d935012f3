-- Machinery: words of private contracts.
-- The first entry with each key, if ASCII case doesn't count.
use Rattle.std.specs.Prelude.{◌≡◌, ℕ, Bool, List, bytes_eq, find, option_map, Option}
use Rattle.std.specs.Borrow.{Bor}
use Rattle.std.specs.List.{list_any}
use Rattle.std.specs.Str.{str_to_ascii_lowercase}
use Rattle.bib_syntax.specs.Reading.{EntryReading}

-- the key of an entry in ASCII lowercase
abbrev pub lowercase_key : EntryReading → List ℕ
lowercase_key said = str_to_ascii_lowercase said.key.text

-- whether `firsts` returns, for each text, the key of the first earlier entry whose key in ASCII lowercase is this text, if there is one
abbrev pub AreFirstKeys : (List ℕ → Option (Bor (List ℕ))) → List EntryReading → Type 0
AreFirstKeys firsts earlier =
    (name : List ℕ) → option_map (λ key. key.now) (firsts name) ≡
    option_map (λ e. e.key.text) (find (λ e. bytes_eq name (lowercase_key e)) earlier)

-- whether the seen keys are exactly those of the earlier entries, in ASCII lowercase
abbrev pub AreKeysSeen : (List ℕ → Bool) → List EntryReading → Type 0
AreKeysSeen seen earlier = (key : List ℕ) → seen key ≡ list_any (λ e. bytes_eq key (lowercase_key e)) earlier
