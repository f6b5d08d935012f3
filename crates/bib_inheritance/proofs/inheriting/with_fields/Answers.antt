use Rattle.std.proofs.Common.{◌≡◌, ◌∙◌, ◌++◌, ap, reverse, codes}
use Rattle.std.specs.FinMap.{get, entries, remove, from_entries}
use Rattle.bib_inheritance.proofs.FieldFacts.{field_gathered}
use Rattle.bib_inheritance.proofs.inheriting.with_fields.Goals as goal

pub returns : goal.returns
returns c = λ q.
    let given = c.args.given.items in
    let own = c.args.own in
    let all : c.append.new.self.items ≡ entries own ++ given =
    c.in_ok-append.ensures.items ∙ ap (λ l. l ++ given) (c.reserve_exact.ensures.items ∙ c.into_pairs-pairs.ensures) in
    let pairs : c.reverse.new.self.items ≡ reverse (entries own ++ given) = c.reverse.ensures.items ∙ ap reverse all in
    ap (λ m. get m q)
    (c.remove.ensures.removed
    ∙ ap (λ m. remove m (codes "xdata")) (c.in_ok-fields.ensures ∙ ap (λ l. from_entries (reverse l)) pairs))
    ∙ field_gathered own given (codes "xdata") q
