-- Meaning: words of public contracts.
-- The contents of a writer after a text that it refused.
use Rattle.std.specs.Prelude.{ℕ, List, take}
use Rattle.std.specs.Io.KnownBytes.{Appends}
use Rattle.std.specs.declared.option.Option.{Option}

-- if the contents are known, a prefix of `bytes` is appended to them; the prefix may be empty or all of `bytes`
abbrev pub AppendsPart : Option (List ℕ) → Option (List ℕ) → List ℕ → Type 0
AppendsPart old new bytes = (count : ℕ) × Appends old new (take count bytes)
