use Rattle.std.proofs.Common.{◌≡◌, ℕ, Bool, length, map, take}
use Rattle.std.specs.Prelude.{◌&&◌, ◌||◌}
use Rattle.std.specs.List.{list_any}
use Rattle.bib_collections.specs.Graph.{refs_of}
use Rattle.bib_collections.specs.Rows.{rows}
use Rattle.bib_syntax.specs.Views.{field_of}
use Rattle.edit_sort.specs.Ranks.{names_index}
use Rattle.edit_sort.proofs.crossrefs.add_references.Given as goal

-- the child is in the rows of the indices that the fields so far refer to
abbrev pub invariant-fields : goal.invariant-fields
invariant-fields l = record {
  same_length : length l.children.items ≡ length l.fn.children.items;
  more : (test : ℕ → Bool) (index : ℕ)
      → list_any test (refs_of (rows l.children.items) index)
      ≡ (list_any test (refs_of (rows l.fn.children.items) index)
      || (list_any (names_index l.names index) (map field_of (take l.field-index l.fields)) && test l.child));
}
