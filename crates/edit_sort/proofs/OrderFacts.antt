-- The order of entries.
use Rattle.std.specs.Cmp.{IsTotalOrder}
use Rattle.std.proofs.lemmas.Cmp.{nat_cmp_total, on_total, then_total}
use Rattle.edit_sort.specs.Sorted.{item_cmp}

pub item_total : IsTotalOrder item_cmp
item_total =
    then_total (on_total (λ i. i.run) nat_cmp_total)
    (then_total (on_total (λ i. i.rank) nat_cmp_total)
    (then_total (on_total (λ i. i.place) nat_cmp_total) (on_total (λ i. i.entry.start) nat_cmp_total)))
