use Rattle.std.proofs.Common.{arith}
use Rattle.std.proofs.lemmas.List.Sums.{prefix_len-le-length}
use Rattle.edit_entries.specs.Unset.{is_line_space}
use Rattle.edit_entries.proofs.removing.blank_end.Goals as goal

pub overflow_add-result : goal.overflow_add-result
overflow_add-result c =
    omega (arith, c.blank_len.ensures, c.stretch.ensures.bound, prefix_len-le-length is_line_space c.stretch.result.now)
