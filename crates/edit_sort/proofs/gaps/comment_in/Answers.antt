use Rattle.std.proofs.Common.{cond, sym, ap, ◌∙◌}
use Rattle.std.proofs.lemmas.Str.Ascii.{trim_ascii_start_is}
use Rattle.edit_sort.specs.Sorted.{after_blank_line, near_comment, without_white}
use Rattle.edit_sort.proofs.gaps.comment_in.Goals as goal

pub returns-else-begins_run : goal.returns-else-begins_run
returns-else-begins_run c =
    let gap = c.args.gap.now in
    trim_ascii_start_is _ _ c.trim_ascii_start.ensures.value
    ∙ sym
    (ap (λ b. cond b (near_comment (after_blank_line gap)) (without_white gap))
    (sym c.begins_run.ensures ∙ c.if-begins_run.false))
