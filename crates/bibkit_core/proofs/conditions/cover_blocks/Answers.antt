use Rattle.std.proofs.Common.{◌∙◌, ◌||◌, ap, get_or, false, sym, take}
use Rattle.std.specs.List.{list_any}
use Rattle.std.proofs.lemmas.List.{take_all}
use Rattle.std.proofs.lemmas.List.Folds.{list_any_more}
use Rattle.bib_text.proofs.BoolFacts.{or_grouped}
use Rattle.bibkit_core.specs.Conditions.{is_in_block}
use Rattle.bibkit_core.proofs.conditions.cover_blocks.Goals as goal

pub skipped-preserved : goal.skipped-preserved
skipped-preserved c = λ entries starts at.
    let first = list_any (is_in_block entries at) (take c.skipped.block-index c.args.skipped.now) in
    c.in_ok-cover_block.ensures entries starts at
    ∙ ap (λ b. b || is_in_block entries at c.block-item.result) (c.skipped.invariant entries starts at)
    ∙ or_grouped (get_or c.args.covered.now.items at false) first (is_in_block entries at c.block-item.result)
    ∙ ap (λ b. get_or c.args.covered.now.items at false || (first || is_in_block entries at b)) c.block-item.is
    ∙ ap (λ b. get_or c.args.covered.now.items at false || b)
    (sym (list_any_more (is_in_block entries at) c.args.skipped.now c.skipped.block-index _ c.skipped-test.true))

pub returns : goal.returns
returns c = λ entries starts at.
    c.skipped.invariant entries starts at
    ∙ ap (λ l. get_or c.args.covered.now.items at false || list_any (is_in_block entries at) l)
    (take_all c.skipped.block-index c.args.skipped.now c.skipped-test.false)
