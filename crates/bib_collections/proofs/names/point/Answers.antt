use Rattle.std.proofs.Common.{is_ok, ◌+◌, vec_len, if◌then◌else◌, insert, ap, ◌∙◌, refl, arith}
use Rattle.bib_collections.specs.Sorted.{IsIndexOf, IsGapFor}
use Rattle.bib_collections.proofs.SortedFacts.{set_at, set_sorted, insert_gap, insert_sorted}
use Rattle.bib_collections.proofs.names.point.Goals as goal

pub returns-in-Ok : goal.returns-in-Ok
returns-in-Ok c =
    let at : IsIndexOf c.args.pairs.now.items c.args.name c.in-Ok.at =
    rw (← c.as_slice.ensures.value, ← c.as_str.ensures) c.in-Ok.ensures in
    record {
      sorted = rw c.index_mut.ensures.value (set_sorted _ _ refl c.requires.was_sorted _ _ at c.args.index c.index_mut.result.now);
      claimed = rw c.index_mut.ensures.value (set_at _ _ refl c.requires.was_sorted _ _ at c.args.index c.index_mut.result.now);
      at_most_one_more = omega arith;
      capacity = omega arith;
    }

pub returns-in-Err : goal.returns-in-Err
returns-in-Err c =
    let gap : IsGapFor c.args.pairs.now.items c.args.name c.in-Err.at =
    rw (← c.as_slice.ensures.value, ← c.as_str.ensures) c.in-Err.ensures in
    let inserted =
    c.insert-inserted.ensures.items
    ∙ ap
    (λ r.
    if is_ok r then insert c.args.pairs.now.items c.in-Err.at (c.args.name, c.args.index)
    else c.args.pairs.now.items) c.unwrap.ensures in
    record {
      sorted = rw inserted (insert_sorted _ _ refl c.requires.was_sorted _ _ gap c.args.index);
      claimed = rw inserted (insert_gap _ _ refl c.requires.was_sorted _ _ gap c.args.index);
      at_most_one_more =
          omega (
            arith,
            c.insert-inserted.ensures.len
                ∙ ap (λ r. if is_ok r then vec_len c.args.pairs.now + 1 else vec_len c.args.pairs.now)
                c.unwrap.ensures,
          );
      capacity = c.insert-inserted.ensures.capacity;
    }
