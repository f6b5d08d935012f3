-- Facts about the graph whose rows are the elements of vectors.
use Rattle.std.proofs.Common.{◌≡◌, ℕ, ◌<◌, List, length, [], get_or, sym, ap, ◌∙◌, subst, arith}
use Rattle.std.specs.declared.alloc.Global.{Global}
use Rattle.std.specs.declared.vec.Vec.{Vec}
use Rattle.std.specs.List.{All, Contains}
use Rattle.std.proofs.lemmas.List.{length-map, get_or-map}
use Rattle.std.proofs.lemmas.List.Elements.{All-get_or, Contains-get_or}
use Rattle.bib_collections.specs.Graph.{refs_of, IsInRange}
use Rattle.bib_collections.specs.Rows.{rows}

pub length-rows : (refs : List (Vec ℕ Global)) → length (rows refs) ≡ length refs
length-rows refs = length-map refs (λ row. row.items)

-- the row of the graph at an index has the elements of the vector at this index
pub row_at : (refs : List (Vec ℕ Global)) (index : ℕ) (row : Vec ℕ Global) → index < length refs
    → row ≡ get_or refs index row → refs_of (rows refs) index ≡ row.items
row_at refs index row within e = get_or-map (λ row. row.items) refs index row [] within ∙ ap (λ row. row.items) (sym e)

-- each element of the vector at an index is a reference of this index
pub edge_at : (refs : List (Vec ℕ Global)) (index : ℕ) (row : Vec ℕ Global) (items : List ℕ) (i : ℕ)
    → index < length refs → row ≡ get_or refs index row → items ≡ row.items → i < length items
    → Contains (refs_of (rows refs) index) (get_or items i 0)
edge_at refs index row items i within e is below =
    subst (λ l. Contains l (get_or items i 0)) (is ∙ sym (row_at refs index row within e)) (Contains-get_or items i 0 below)

-- if the graph is in range, each element of the vector at an index is less than the number of vectors
pub row_in : (refs : List (Vec ℕ Global)) (index : ℕ) (row : Vec ℕ Global) → IsInRange (rows refs) → index < length refs
    → row ≡ get_or refs index row → All (λ r. r < length refs) row.items
row_in refs index row in_range within e =
    subst (λ n. All (λ r. r < n) row.items) (length-rows refs)
    (subst (λ l. All (λ r. r < length (rows refs)) l) (row_at refs index row within e)
    (All-get_or (λ l. All (λ r. r < length (rows refs)) l) (rows refs) index [] (omega (arith, within, length-rows refs)) in_range))
