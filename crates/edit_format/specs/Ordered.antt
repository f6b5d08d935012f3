-- Meaning: words of public contracts.
-- Fields of entries in the order of the style.
use Rattle.std.specs.Prelude.{ℕ, List, [], ◌∷◌, ◌++◌, map, not}
use Rattle.std.specs.List.{filter}
use Rattle.bib_syntax.specs.Reading.{FieldReading}
use Rattle.edit_entries.specs.Documents.{has_name}
use Rattle.edit_format.specs.declared.style.Style.{Style}

-- fields in an order of names, in any ASCII case: those of the first name, then the others in the order of the other names.
-- Fields of the same name keep their relative order, and so do fields with none of the names, which come last
abbrev pub in_order : List (List ℕ) → List FieldReading → List FieldReading
in_order [] fields = fields
in_order (name ∷ names) fields = filter (has_name name) fields ++ in_order names (filter (λ f. not (has_name name f)) fields)

-- the names that the style orders
abbrev pub order_of : Style → List (List ℕ)
order_of style = map (λ name. name.now) style.order.now
