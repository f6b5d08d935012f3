use Rattle.std.proofs.Common.{◌≡◌, ◌++◌, take}
use Rattle.std.specs.List.{flat_map}
use Rattle.bib_from_csl.specs.Losses.{member_loss}
use Rattle.bib_from_csl.proofs.losses.push_members.Given as goal

abbrev pub invariant-members : goal.invariant-members
invariant-members l =
    l.losses
    ≡ l.initial.losses ++ flat_map (member_loss l.work l.item.id l.read.fields) (take l.given-index l.given-items)
