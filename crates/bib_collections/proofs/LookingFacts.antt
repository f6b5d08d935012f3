-- Searching pairs for a name, one by one.
use Rattle.std.proofs.Common.{◌≡◌, ℕ, ◌+◌, ◌<◌, ◌≤◌, Bool, true, false, cond, List, length, get_or, drop, Some, None, ap, sym, ◌∙◌}
use Rattle.std.specs.Prelude.{bytes_eq}
use Rattle.std.proofs.lemmas.List.{at_drop_more, at_drop_all}
use Rattle.std.proofs.lemmas.Map.Text.{is_eq-slice_cmp}
use Rattle.std.specs.FinMap as map
use Rattle.bib_collections.specs.Sorted.{by_bytes}

module _ {V : Type 0} (name : List ℕ) (pairs : List (List ℕ × V)) (i : ℕ) where
  -- a search that begins at a pair finds the pair's value if the pair has the name; otherwise it continues at the next
  -- pair
  at_pair : (p : List ℕ × V) → i < length pairs → p ≡ get_or pairs i p → (b : Bool) → bytes_eq name p.0 ≡ b
      → map.find by_bytes name (drop i pairs) ≡ cond b (Some p.1) (map.find by_bytes name (drop (i + 1) pairs))
  at_pair p h here b is =
      at_drop_more (λ l. map.find by_bytes name l) pairs i p h
      ∙ ap (λ b. cond b (Some (get_or pairs i p).1) (map.find by_bytes name (drop (i + 1) pairs)))
      (is_eq-slice_cmp name (get_or pairs i p).0 ∙ ap (λ q. bytes_eq name q.0) (sym here) ∙ is)
      ∙ ap (λ q. cond b (Some q.1) (map.find by_bytes name (drop (i + 1) pairs))) (sym here)

  -- a search from a pair with the name finds its value
  pub found : (p : List ℕ × V) → i < length pairs → p ≡ get_or pairs i p → bytes_eq name p.0 ≡ true
      → map.find by_bytes name (drop i pairs) ≡ Some p.1
  found p h here is = at_pair p h here true is

  -- a search from a pair with another name continues at the next pair
  pub passed : (p : List ℕ × V) → i < length pairs → p ≡ get_or pairs i p → bytes_eq name p.0 ≡ false
      → map.find by_bytes name (drop i pairs) ≡ map.find by_bytes name (drop (i + 1) pairs)
  passed p h here is = at_pair p h here false is

  -- a search after the last pair finds nothing
  pub nowhere : length pairs ≤ i → map.find by_bytes name (drop i pairs) ≡ None
  nowhere h = at_drop_all (λ l. map.find by_bytes name l) pairs i h
