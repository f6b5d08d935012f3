-- Meaning: words of public contracts.
-- References between entries: for each index the indices that its entry refers to, in order. An entry may refer to an
-- index more than once.
use Rattle.std.specs.Prelude.{◌≡◌, ◌↔◌, ℕ, ◌<◌, ◌==◌, Bool, false, IsTrue, List, [], length, map, take, slice_index_or, count_by, nat_lt, if◌then◌else◌}
use Rattle.std.specs.List.{All, Contains}

-- for each index the indices that its entry refers to, in order
abbrev pub Graph : Type 0
Graph = List (List ℕ)

-- the indices that the entry at `index` refers to; none if there is no entry
abbrev pub refs_of : Graph → ℕ → List ℕ
refs_of graph index = slice_index_or graph index []

-- each reference is to the index of an entry
abbrev pub IsInRange : Graph → Type 0
IsInRange graph = All (λ refs. All (λ r. r < length graph) refs) graph

-- a chain of one or more references leads from the first index to the second
pub data Leads (graph : Graph) : ℕ → ℕ → Type 0 where
  one : {a b : ℕ} → Contains (refs_of graph a) b → Leads graph a b
  more : {a b c : ℕ} → Contains (refs_of graph a) b → Leads graph b c → Leads graph a c

-- no entry leads to itself
abbrev pub HasNoCycle : Graph → Type 0
HasNoCycle graph = (index : ℕ) → index < length graph → Leads graph index index → ⊥

-- `index` is the first index that leads to itself
pub record IsFirstOnCycle (graph : Graph) (index : ℕ) : Type 0 where
  pub within : index < length graph
  pub cycle : Leads graph index index
  pub first : (earlier : ℕ) → earlier < index → Leads graph earlier earlier → ⊥

-- `marks` has a mark for each index that leads to itself, and for no other
pub record AreOnCycles (graph : Graph) (marks : List Bool) : Type 0 where
  pub same_length : length marks ≡ length graph
  pub each : (index : ℕ) → index < length graph → IsTrue (slice_index_or marks index false) ↔ Leads graph index index

-- in `order`, each index comes after all indices that its entry refers to
abbrev pub AreInOrder : Graph → List ℕ → Type 0
AreInOrder graph order = (k : ℕ) → k < length order → All (λ r. Contains (take k order) r) (refs_of graph (slice_index_or order k 0))

-- `order` has the index of each entry once, no other index, and each after all indices that its entry refers to
pub record IsTopologicalOrder (graph : Graph) (order : List ℕ) : Type 0 where
  pub once : (index : ℕ) → count_by (λ next_index. next_index == index) order ≡ (if nat_lt index (length graph) then 1 else 0)
  pub in_order : AreInOrder graph order

-- The values solve the equation: each index has the value of `rule` for the index and the values of its references, in
-- order. A missing value is `none`.
pub record Solves {V : Type 0} (none : V) (rule : ℕ → List V → V) (graph : Graph) (values : List V) : Type 0 where
  pub same_length : length values ≡ length graph
  pub each : (index : ℕ) → index < length graph
      → slice_index_or values index none ≡ rule index (map (λ r. slice_index_or values r none) (refs_of graph index))

-- the equation has exactly one solution
abbrev pub HasOneSolution : {V : Type 0} → V → (ℕ → List V → V) → Graph → Type 0
HasOneSolution {V} none rule graph =
    (values : List V) × Solves none rule graph values × ((others : List V) → Solves none rule graph others → others ≡ values)
