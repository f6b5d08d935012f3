-- Meaning: words of public contracts.
-- The rules in a row of the table of requirements.
use Rattle.std.specs.List.{flat_map}
use Rattle.bib_tables.specs.declared.mechanics.requirements.Row.{Row}
use Rattle.bib_tables.specs.Requirements.{Names, texts, Rules, rules}

-- the optional fields of a row, in the order of its groups
abbrev pub optional_of_row : Row → Names
optional_of_row row = flat_map (λ group. texts group.now) row.optional.now

-- the rules in a row
abbrev pub rules_of_row : Row → Rules
rules_of_row row = rules (texts row.required.now) (optional_of_row row) row.author row.pages row.needs_date
