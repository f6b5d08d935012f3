use Rattle.std.proofs.Common.{◌∙◌, ℕ, true, List, [], get_or, cond, sym, ap, arith}
use Rattle.std.specs.Prelude.{bytes_eq}
use Rattle.std.specs.Borrow.{Bor}
use Rattle.std.proofs.lemmas.Map.Text.{is_eq-slice_cmp}
use Rattle.bib_queries.specs.Sets.{is_in_set}
use Rattle.bib_queries.proofs.MarkFacts.{any_more}
use Rattle.edit_entries.proofs.firsts.key_set.Goals as goal

pub keys-preserved : goal.keys-preserved
keys-preserved c = λ key.
    let nobody : Bor (List ℕ) = record { ref_ptr = (0, 0); now = [] } in
    let one : Bor (List ℕ) = record { ref_ptr = (0, 0); now = key } in
    let own : List ℕ = (get_or c.args.keys.now c.keys.key-index nobody).now in
    let more = any_more (λ k. k.now) (λ k. bytes_eq k key) c.args.keys.now c.keys.key-index nobody (omega arith) in
    c.in_ok-insert.ensures.updates.0 one
    ∙ ap (λ b. cond b true (is_in_set c.keys.set key)) (is_eq-slice_cmp own key)
    ∙ ap (cond (bytes_eq own key) true) (c.keys.invariant key) ∙ sym more
