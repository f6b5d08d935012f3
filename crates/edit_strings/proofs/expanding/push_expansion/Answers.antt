use Rattle.std.proofs.Common.{length, map, sym, ap, subst}
use Rattle.std.specs.List.{AllByRecursion}
use Rattle.bib_syntax.specs.Views.{piece_of}
use Rattle.edit_strings.specs.Tables.{IsIndexBelow, index_by_lowercase, indexed_back}
use Rattle.edit_strings.proofs.WrittenFacts.{indexed_below}
use Rattle.edit_strings.proofs.expanding.push_expansion.Goals as goal

pub expanded-requires-clause-below : goal.expanded-requires-clause-below
expanded-requires-clause-below c =
    let rows = c.args.names.now.rows.items in
    subst (λ n. AllByRecursion (IsIndexBelow n) (indexed_back c.in_ok-pieces.pieces.items)) (sym (ap length c.deref-3.ensures.value))
    (subst (AllByRecursion (IsIndexBelow (length rows))) (sym c.in_ok-pieces.ensures)
    (indexed_below (length rows) (index_by_lowercase c.args.indices.now) c.requires.below (map piece_of c.deref-2.result.now)))
