use Rattle.std.proofs.Common.{◌≡◌, length}
use Rattle.edit_resolve.specs.Working.{fields_at, readings}
use Rattle.edit_resolve.proofs.AlongFacts.{IsAlongTo}
use Rattle.edit_resolve.proofs.turns.fields_in_order.Given as goal

-- the entries of the order so far have their fields
abbrev pub invariant-order : goal.invariant-order
invariant-order l = record {
  count : length l.fields.items ≡ length l.file.entries.now;
  along : IsAlongTo (readings l.file) l.order l.index-index (fields_at l.fields.items);
}
