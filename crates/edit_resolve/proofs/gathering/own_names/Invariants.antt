use Rattle.std.proofs.Common.{◌≡◌, ℕ, List, map, take}
use Rattle.std.specs.BTreeSet.{contains_text}
use Rattle.bib_queries.specs.Needed.{is_listed}
use Rattle.bib_syntax.specs.Views.{field_of}
use Rattle.edit_resolve.specs.Inheritance.{read_name}
use Rattle.edit_resolve.proofs.gathering.own_names.Given as goal

-- the set has the names of the fields so far
abbrev pub invariant-fields : goal.invariant-fields
invariant-fields l =
    (name : List ℕ) → contains_text l.names name
    ≡ is_listed (map (λ f. read_name f.name.text) (map field_of (take l.field-index l.fields))) name
