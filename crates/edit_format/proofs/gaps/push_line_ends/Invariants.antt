use Rattle.std.proofs.Common.{◌≡◌, ◌≤◌, ◌++◌}
use Rattle.std.specs.String.{string_bytes}
use Rattle.edit_format.specs.Formatted.{line_ends}
use Rattle.edit_format.proofs.gaps.push_line_ends.Given as goal

abbrev pub invariant-lines : goal.invariant-lines
invariant-lines l = record {
  written : string_bytes l.new ≡ string_bytes l.initial.new ++ line_ends l.line_end l._written;
  within : l._written ≤ l.fn.count;
}
