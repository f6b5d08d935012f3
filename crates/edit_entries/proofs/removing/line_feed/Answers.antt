use Rattle.std.proofs.Common.{arith}
use Rattle.std.proofs.lemmas.List.Sums.{prefix_len-le-length}
use Rattle.edit_entries.specs.Unset.{is_no_line_feed}
use Rattle.edit_entries.proofs.removing.line_feed.Goals as goal

pub overflow_add-result : goal.overflow_add-result
overflow_add-result c =
    omega (arith, c.line_len.ensures, c.stretch.ensures.bound, prefix_len-le-length is_no_line_feed c.stretch.result.now)
