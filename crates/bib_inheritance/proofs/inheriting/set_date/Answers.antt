use Rattle.std.proofs.Common.{◌∙◌, ap, codes}
use Rattle.std.specs.FinMap.{get, insert, remove}
use Rattle.bib_inheritance.proofs.FieldFacts.{field_dated}
use Rattle.bib_inheritance.proofs.inheriting.set_date.Goals as goal

pub returns : goal.returns
returns c = λ q.
    let year = c.remove.ensures.removed in
    let month = c.remove-2.ensures.removed ∙ ap (λ m. remove m (codes "month")) year in
    let day = c.remove-3.ensures.removed ∙ ap (λ m. remove m (codes "day")) month in
    let date =
    c.in_ok-insert.ensures.inserted ∙ ap (λ m. insert m c.in_ok-name.name c.args.date) day
    ∙ ap
    (λ n.
    insert (remove (remove (remove c.args.fields.now (codes "year")) (codes "month")) (codes "day")) n
    c.args.date) c.in_ok-name.ensures in
    ap (λ m. get m q) date
    ∙ field_dated c.args.fields.now (codes "year") (codes "month") (codes "day") (codes "date") c.args.date q
