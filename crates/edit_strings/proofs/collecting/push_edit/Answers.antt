use Rattle.std.proofs.Common.{◌<◌, length, sym, subst, arith}
use Rattle.std.specs.Prelude.{IfSome}
use Rattle.edit_strings.proofs.collecting.push_edit.Goals as goal

pub index-requires : goal.index-requires
index-requires c =
    let below =
    subst (λ o. IfSome o (λ i. i < length c.args.collection.now.names.items)) (sym c.in-Some-get.ensures.value)
    (c.requires.below c.in-Some.value.now) in
    omega (arith, below, c.args.collection.now.names.ok)
