use Rattle.std.proofs.Common.{◌∙◌, ℕ, true, List, [], get_or, cond, sym, ap, arith}
use Rattle.std.specs.Prelude.{bytes_eq}
use Rattle.std.specs.Borrow.{Bor}
use Rattle.std.proofs.lemmas.Map.Text.{is_eq-slice_cmp}
use Rattle.bib_queries.specs.Sets.{is_in_set}
use Rattle.bib_queries.proofs.SearchFacts.{among_more}
use Rattle.bibkit_core.proofs.conditions.name_set.Goals as goal

pub names-preserved : goal.names-preserved
names-preserved c = λ name.
    let nobody : Bor (List ℕ) = record { ref_ptr = (0, 0); now = [] } in
    let one : Bor (List ℕ) = record { ref_ptr = (0, 0); now = name } in
    let more = among_more c.args.names.now c.names.name-index nobody name (omega arith) in
    c.in_ok-insert.ensures.updates.0 one
    ∙ ap (λ b. cond b true (is_in_set c.names.set name))
    (is_eq-slice_cmp (get_or c.args.names.now c.names.name-index nobody).now name)
    ∙ ap (cond (bytes_eq (get_or c.args.names.now c.names.name-index nobody).now name) true) (c.names.invariant name) ∙ sym more
