use Rattle.std.proofs.Common.{List, ℕ, [], ap, cond, get_or, sym, ◌∙◌, Some}
use Rattle.std.specs.Borrow.{Bor}
use Rattle.std.proofs.lemmas.List.{get_or_default, take_all}
use Rattle.std.proofs.lemmas.Map.Text.{btree_map_updates_str}
use Rattle.std.specs.Prelude.{bytes_eq}
use Rattle.edit_entries.proofs.PositionFacts.{last_step}
use Rattle.edit_strings.specs.Collected.{text_index}
use Rattle.edit_strings.specs.Views.{lent_texts}
use Rattle.edit_strings.proofs.collecting.indices.Goals as goal

pub texts-preserved : goal.texts-preserved
texts-preserved c = λ text.
    let nobody : Bor (List ℕ) = record { ref_ptr = (0, 0); now = [] } in
    let x : Bor (List ℕ) = get_or c.args.texts.now c.texts.index nobody in
    btree_map_updates_str x.now c.texts.indices c.insert.new.self _ c.in_ok-insert.ensures.updates text
    ∙ ap (cond (bytes_eq x.now text) (Some c.texts.index)) (c.texts.invariant text)
    ∙ sym
    (last_step (λ t. t.now) (λ t. bytes_eq t text) c.args.texts.now c.texts.index x c.texts-test.true
    (get_or_default c.args.texts.now c.texts.index nobody x c.texts-test.true))

pub returns : goal.returns
returns c = λ i text.
    (c.texts.invariant text
    ∙ ap (λ l. text_index (lent_texts l) text) (take_all c.texts.index c.args.texts.now c.texts-test.false)) i
