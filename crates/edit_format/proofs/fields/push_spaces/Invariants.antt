use Rattle.std.proofs.Common.{◌≡◌, ◌≤◌, ◌++◌}
use Rattle.std.specs.String.{string_bytes}
use Rattle.edit_format.specs.Formatted.{spaces}
use Rattle.edit_format.proofs.fields.push_spaces.Given as goal

abbrev pub invariant-spaces : goal.invariant-spaces
invariant-spaces l = record {
  written : string_bytes l.new ≡ string_bytes l.initial.new ++ spaces l._written;
  within : l._written ≤ l.fn.count;
}
