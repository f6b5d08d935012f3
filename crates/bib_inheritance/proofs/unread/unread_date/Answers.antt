use Rattle.std.proofs.Common.{◌<◌, length, sym, subst}
use Rattle.std.specs.List.{All}
use Rattle.bib_collections.proofs.Rows.{row_in}
use Rattle.bib_inheritance.proofs.unread.unread_date.Goals as goal

pub first_unread-requires-clause-indices : goal.first_unread-requires-clause-indices
first_unread-requires-clause-indices c =
    subst (λ n. All (λ r. r < n) c.deref.result.now) (sym c.requires.as_long)
    (subst (λ l. All (λ r. r < length c.args.refs.now) l) (sym c.deref.ensures.value)
    (row_in c.args.refs.now c.entries.index c.index-refs-index.result c.requires.in_range c.entries-test.true
    c.index-refs-index.is))
