use Rattle.std.proofs.Common.{◌≡◌, ◌≤◌, ◌-◌, ◌++◌}
use Rattle.std.specs.String.{string_bytes}
use Rattle.bibkit_core.specs.Tables.{padding}
use Rattle.bibkit_core.proofs.tables.push_spaces.Given as goal

abbrev pub invariant-spaces : goal.invariant-spaces
invariant-spaces l = record {
  printed : string_bytes l.text ≡ string_bytes l.initial.text ++ padding l.fn.written l._column;
  within : l._column - l.fn.written ≤ l.fn.width - l.fn.written;
}
