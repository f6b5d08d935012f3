use Rattle.std.proofs.Common.{[], cond, sym, ap, ◌∙◌}
use Rattle.std.proofs.lemmas.Str.Ascii.{trim_ascii_start_is}
use Rattle.edit_sort.specs.Sorted.{without_white}
use Rattle.edit_sort.proofs.gaps.near_comment.Goals as goal

pub returns-else-has_block_sign : goal.returns-else-has_block_sign
returns-else-has_block_sign c =
    trim_ascii_start_is _ _ c.trim_ascii_start.ensures.value
    ∙ sym (ap (λ b. cond b [] (without_white c.args.near.now)) (sym c.has_block_sign.ensures ∙ c.if-has_block_sign.false))
