use Rattle.std.proofs.Common.{◌∙◌, sym}
use Rattle.std.specs.Cmp.Derive.Mapped.{pointwise-map}
use Rattle.std.specs.Prelude.{bytes_eq}
use Rattle.edit_changes.proofs.orders.are_equal_names.Goals as goal

pub returns : goal.returns
returns c = c.eq.ensures ∙ sym (pointwise-map (λ n. n.now) bytes_eq c.args.first.now c.args.second.now)
