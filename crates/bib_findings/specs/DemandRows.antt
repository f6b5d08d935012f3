-- Machinery: words of private contracts.
-- Relates the table of requirements in the code to the table of the definition.
use Rattle.std.specs.Prelude.{ℕ, List, [], find, map}
use Rattle.std.specs.Option.{option_map_or}
use denote.Ref.{Bor}
use Rattle.bib_tables.specs.Requirements.{Names, texts}
use Rattle.bib_findings.specs.Nearest.{is_known_name}
use Rattle.bib_findings.specs.declared.demands.Row.{Row}

-- the names in the requirements of a row
abbrev pub demand_texts : List (Bor (List (Bor (List ℕ)))) → List Names
demand_texts = map (λ demand. texts demand.now)

-- the row of the definition that a row of the code means
abbrev pub demand_row : Row → Names × List Names
demand_row row = (texts row.types.now, demand_texts row.demands.now)

-- the requirements in the first row with this type, or none
abbrev pub demands_in : List Row → List ℕ → List Names
demands_in rows entry_type = option_map_or (λ row. row.1) (find (λ row. is_known_name row.0 entry_type) (map demand_row rows)) []
