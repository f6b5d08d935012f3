use Rattle.std.proofs.Common.{arith}
use Rattle.std.specs.Char.{is_ascii_whitespace}
use Rattle.std.proofs.lemmas.List.Sums.{prefix_len-le-length}
use Rattle.edit_entries.proofs.removing.white_end.Goals as goal

pub overflow_add-result : goal.overflow_add-result
overflow_add-result c =
    omega (arith, c.white_len.ensures, c.stretch.ensures.bound, prefix_len-le-length is_ascii_whitespace c.stretch.result.now)
