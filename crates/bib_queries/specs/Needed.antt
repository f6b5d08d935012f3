-- Meaning: words of public contracts.
-- The needed nodes: those with a requested name, and those that a needed node refers to. A node has names and refers to names.
-- Several nodes may have the same name.
use Rattle.std.specs.Prelude.{◌≡◌, ◌↔◌, ℕ, ◌<◌, Bool, true, false, IsTrue, List, [], ◌∷◌, length, slice_index_or, bytes_eq}
use Rattle.std.specs.List.{list_any}

-- the names of a node, and the names that it refers to
pub record Node : Type 0 where
  pub names : List (List ℕ)
  pub references : List (List ℕ)

-- whether a name is one of these
abbrev pub is_listed : List (List ℕ) → List ℕ → Bool
is_listed names name = list_any (λ one. bytes_eq one name) names

-- the node at an index, or a node without names beyond the list
abbrev pub node_at : List Node → ℕ → Node
node_at nodes index = slice_index_or nodes index (record { names = []; references = [] })

-- whether the node at an index has this name
abbrev pub HasName : List Node → ℕ → List ℕ → Type 0
HasName nodes index name = is_listed (node_at nodes index).names name ≡ true

-- whether the node at an index refers to this name
abbrev pub RefersTo : List Node → ℕ → List ℕ → Type 0
RefersTo nodes index name = is_listed (node_at nodes index).references name ≡ true

-- whether the node at an index has a requested name, or a name that a needed node refers to
pub data IsNeeded (names : List (List ℕ)) (nodes : List Node) : ℕ → Type 0 where
  asked : {index : ℕ} (name : List ℕ) → is_listed names name ≡ true → HasName nodes index name → IsNeeded names nodes index
  reached : {first second : ℕ} (name : List ℕ) → IsNeeded names nodes first → RefersTo nodes first name
      → HasName nodes second name → IsNeeded names nodes second

-- whether an index has a mark
abbrev pub IsMarked : List Bool → ℕ → Type 0
IsMarked marks index = slice_index_or marks index false ≡ true

-- whether the marks say, for each index below `count`, whether the fact holds for it
pub record AreMarks (fact : ℕ → Type 0) (count : ℕ) (marks : List Bool) : Type 0 where
  pub same_length : length marks ≡ count
  pub each : (index : ℕ) → index < count → IsTrue (slice_index_or marks index false) ↔ fact index

-- the elements with marks, in order
abbrev pub with_marks : {A : Type 0} → List Bool → List A → List A
with_marks [] things = []
with_marks (mark ∷ marks) [] = []
with_marks (true ∷ marks) (thing ∷ things) = thing ∷ with_marks marks things
with_marks (false ∷ marks) (thing ∷ things) = with_marks marks things
