-- Machinery: words of private contracts.
-- Keys as indices, references between indices, and the longest chains in a graph.
use Rattle.std.specs.Prelude.{◌≡◌, ◌==◌, ◌<◌, ◌&&◌, ℕ, zero, suc, ◌+◌, Bool, true, false, List, [], ◌∷◌, Some, cond, is_some, length, map, max, min, option_map, slice_get, unwrap_or}
use Rattle.std.specs.FinMap.{get}
use Rattle.std.specs.List.{All, list_any, range_with_len}
use Rattle.std.specs.Option.{option_map_or}
use Rattle.std.specs.Str.{str_to_ascii_lowercase}
use Rattle.bib_collections.specs.Graph.{Graph, refs_of}
use Rattle.bib_collections.specs.Search.{is_marked}
use Rattle.bib_collections.specs.Sorted.{ByText}
use Rattle.bib_syntax.specs.Reading.{FieldReading, EntryReading}
use Rattle.bib_syntax.specs.Views.{entry_reading_of}
use Rattle.edit_sort.specs.Sorted as sorted
use Rattle.edit_sort.specs.Sorted.{crossref, greatest}
use Rattle.edit_sort.specs.declared.items.Item.{Item}

-- the key of an entry in ASCII lowercase
abbrev pub lower_key : EntryReading → List ℕ
lower_key e = str_to_ascii_lowercase e.key.text

-- the entry of `all` at the index that a key points to has this key in ASCII lowercase
abbrev pub AreIndicesOf : List EntryReading → ByText ℕ → Type 0
AreIndicesOf all names = (key : List ℕ) (k : ℕ) → get names key ≡ Some k → option_map lower_key (slice_get all k) ≡ Some key

-- the keys of entries point to an index
abbrev pub HaveIndices : ByText ℕ → List EntryReading → Type 0
HaveIndices names entries = All (λ e. is_some (get names (lower_key e)) ≡ true) entries

-- no entry before the index that a key points to has that key
abbrev pub AreFirstIndices : List EntryReading → ByText ℕ → Type 0
AreFirstIndices all names =
    (key : List ℕ) (k j : ℕ) → get names key ≡ Some k → j < k → option_map lower_key (slice_get all j) ≡ Some key → ⊥

-- the keys of entries, in ASCII lowercase, point to the index of the first entry with that key
pub record AreKeyIndices (entries : List EntryReading) (names : ByText ℕ) : Type 0 where
  pub of_key : AreIndicesOf entries names
  pub first : AreFirstIndices entries names
  pub each : HaveIndices names entries

-- the index that the key of an entry points to: the first entry with that key represents all of them
abbrev pub owner : ByText ℕ → EntryReading → ℕ
owner names e = unwrap_or (get names (lower_key e)) 0

-- whether a key points to this index
abbrev pub points_to : ByText ℕ → ℕ → List ℕ → Bool
points_to names index key = option_map_or (λ k. k == index) (get names (str_to_ascii_lowercase key)) false

-- whether a field is a `crossref` that names a key that points to this index
abbrev pub names_index : ByText ℕ → ℕ → FieldReading → Bool
names_index names index f = option_map_or (points_to names index) (crossref f) false

-- the row of an index has the owners of the entries that name a key that points to the index, and no other
abbrev pub AreChildren : ByText ℕ → List EntryReading → Graph → Type 0
AreChildren names entries graph = (test : ℕ → Bool) (index : ℕ)
    → list_any test (refs_of graph index) ≡ list_any (λ e. list_any (names_index names index) e.fields && test (owner names e)) entries

-- whether a chain of this many references begins at an index
abbrev pub has_walk : Graph → ℕ → ℕ → Bool
has_walk graph zero index = true
has_walk graph (suc n) index = list_any (has_walk graph n) (refs_of graph index)

-- the length of the longest chain of references that begins at an index, but at most `most`
abbrev pub longest : Graph → ℕ → ℕ → ℕ
longest graph most index = greatest (λ n. has_walk graph n index) most

-- the lengths of the longest chains that begin at each index, at most the number of indices
abbrev pub longest_chains : Graph → List ℕ
longest_chains graph = map (longest graph (length graph)) (range_with_len 0 (length graph))

-- one more than the greatest of lengths, but at most `most`; 0 if there are none
abbrev pub one_above : ℕ → List ℕ → ℕ
one_above most [] = 0
one_above most (n ∷ ns) = max (min (n + 1) most) (one_above most ns)

-- the length at an index, from the lengths at the indices that it refers to; `most` if the index is on a cycle
abbrev pub length_by : ℕ → List Bool → ℕ → List ℕ → ℕ
length_by most marks index lengths = cond (is_marked marks index) most (one_above most lengths)

-- `left` is a graph without the references of marked indices
pub record AreCyclesCut (graph : Graph) (marks : List Bool) (left : Graph) : Type 0 where
  pub same_length : length left ≡ length graph
  pub each : (index : ℕ) → refs_of left index ≡ cond (is_marked marks index) [] (refs_of graph index)

-- an item of the code as an item of the definitions
abbrev pub item_reading_of : Item → sorted.Item
item_reading_of i = record { run = i.run; rank = i.rank; place = i.place; comment = i.comment.now; entry = entry_reading_of i.entry.now }
