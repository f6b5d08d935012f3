-- Meaning: words of public contracts.
-- The names in the vectors of the code.
use Rattle.std.specs.Prelude.{ℕ, List, map}
use Rattle.std.specs.Borrow.{Bor}
use Rattle.std.specs.Global.{Vec}
use Rattle.bib_queries.specs.Needed.{Node}
use Rattle.bib_queries.specs.declared.names.Links.{Links}

-- the bytes of texts
abbrev pub text_list : Vec (Bor (List ℕ)) → List (List ℕ)
text_list names = map (λ name. name.now) names.items

-- the names of a node, and the names that it refers to
abbrev pub node_of : Links → Node
node_of links = record { names = text_list links.names; references = text_list links.references }
