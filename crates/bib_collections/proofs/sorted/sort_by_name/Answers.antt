use Rattle.std.proofs.Common.{ℕ, List, reverse, rules}
use Rattle.std.proofs.lemmas.Fn.{always_returns_same, dedup_same}
use Rattle.std.proofs.lemmas.List.Sorted.{ranks_by}
use Rattle.std.proofs.lemmas.Cmp.{nat_list_cmp_total}
use Rattle.std.specs.List.Sorted.{IsStableBy}
use Rattle.std.proofs.lemmas.Map.Text.{is_eq-slice_cmp}
use Rattle.bib_collections.specs.Sorted.{by_bytes}
use Rattle.bib_collections.proofs.SortingFacts.{below, tie, sorted_pairs, last_pairs}
use Rattle.bib_collections.proofs.sorted.sort_by_name.Goals as goal

pub returns : goal.returns
returns g c =
    let by_name = ranks_by nat_list_cmp_total {X = List ℕ × g.row.V.Denot} (λ p. p.0) in
    let rising = c.in_ok-sort_by.ensures.sorted (below by_bytes) by_name (always_returns_same _ _ _ (λ a r f called. search rules)) in
    let stable : IsStableBy (below by_bytes) (reverse c.args.pairs.items) c.sort_by.new.self.items =
    rw (← c.reverse.ensures.items)
    (c.in_ok-sort_by.ensures.stable (below by_bytes) by_name
    (always_returns_same _ _ _ (λ a r f called. search rules))) in
    let left = dedup_same _ (tie by_bytes) _ (λ x y b f x' y' called. search (rules, is_eq-slice_cmp)) _ _ c.dedup_by.ensures.filtered in
    record {
      sorted = rw left (sorted_pairs c.args.pairs.items _ rising stable);
      last = rw left (last_pairs c.args.pairs.items _ rising stable);
    }
