use Rattle.std.proofs.Common.{◌∙◌, ap, lit<}
use Rattle.std.specs.Prelude.{◌==◌}
use Rattle.std.specs.List.{flat_map, slice_split}
use Rattle.std.proofs.lemmas.Iterator.Consumers.{YieldsList-end}
use Rattle.std.proofs.lemmas.Iterator.Splits.{YieldsList-from_str_split}
use Rattle.edit_orders.specs.Letters.{word_and_space}
use Rattle.edit_orders.proofs.letters.sort_text.Goals as goal

pub returns : goal.returns
returns c =
    let all =
    YieldsList-end (YieldsList-from_str_split 32 c.deref.result.now (lit< tt) (cc) (cc) (cc)) c.words.yielded _
    c.words.yielded_by _ _ c.in-None.is c.next.ensures.steps in
    c.words.invariant ∙ ap (flat_map word_and_space) (all.0 ∙ ap (slice_split (λ b. b == 32)) (c.deref.ensures ∙ c.in_ok-plain.ensures))
