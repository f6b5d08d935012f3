-- Machinery: words of private contracts.
-- The last definition of each abbreviation, if ASCII case doesn't count.
use Rattle.std.specs.Prelude.{◌≡◌, ℕ, List, bytes_eq, find, option_map, reverse, Option}
use Rattle.std.specs.Borrow.{Bor}
use Rattle.bib_syntax.specs.Reading.{FieldReading}
use Rattle.bib_syntax.specs.Views.{field_of}
use Rattle.bib_syntax.specs.declared.raw.Pair.{Pair}
use Rattle.bib_findings.specs.Counted.{lowercase_name}

-- the reading of a definition that may be missing
abbrev pub read_definition : Option (Bor Pair) → Option FieldReading
read_definition definition = option_map (λ p. field_of p.now) definition

-- whether `lasts` returns, for each text, the last earlier definition whose name in ASCII lowercase is this text, if there is one
abbrev pub AreLastDefinitions : (List ℕ → Option (Bor Pair)) → List FieldReading → Type 0
AreLastDefinitions lasts earlier =
    (name : List ℕ) → read_definition (lasts name) ≡ find (λ f. bytes_eq name (lowercase_name f)) (reverse earlier)
