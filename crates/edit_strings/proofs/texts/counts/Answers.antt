use Rattle.std.proofs.Common.{List, ℕ, [], ap, get_or, sym, take, ◌∙◌}
use Rattle.std.specs.Borrow.{Bor}
use Rattle.std.proofs.lemmas.List.{get_or_default}
use Rattle.std.proofs.lemmas.Map.Text.{btree_map_updates_str}
use Rattle.std.specs.Option.{option_map_or}
use Rattle.edit_strings.specs.Collected.{times_of}
use Rattle.edit_strings.specs.Views.{lent_texts}
use Rattle.edit_strings.proofs.TextFacts.{counted_more, one_more}
use Rattle.edit_strings.proofs.texts.counts.Goals as goal

pub texts-preserved : goal.texts-preserved
texts-preserved c = λ text.
    let nobody : Bor (List ℕ) = record { ref_ptr = (0, 0); now = [] } in
    let x : Bor (List ℕ) = get_or c.args.texts.now c.texts.text-index nobody in
    let so_far = lent_texts (take c.texts.text-index c.args.texts.now) in
    ap (λ o. option_map_or (λ n. n) o 0)
    (btree_map_updates_str x.now c.texts.counts c.insert.new.self _ c.in_ok-insert.ensures.updates text)
    ∙ counted_more text x.now so_far _ c.count_of-count.result (c.count_of-count.ensures ∙ c.texts.invariant x.now) (c.texts.invariant text)
    ∙ ap (times_of text)
    (sym
    (one_more (λ t. t.now) c.args.texts.now c.texts.text-index x c.texts-test.true
    (get_or_default c.args.texts.now c.texts.text-index nobody x c.texts-test.true)))
