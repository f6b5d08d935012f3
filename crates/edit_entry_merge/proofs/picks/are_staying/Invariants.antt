use Rattle.std.proofs.Common.{◌≡◌, drop, map}
use Rattle.std.specs.List.{list_all}
use Rattle.edit_entry_merge.specs.Picks.{is_staying}
use Rattle.edit_entry_merge.specs.Working.{pick_of}
use Rattle.edit_entry_merge.proofs.picks.are_staying.Given as goal

abbrev pub invariant-picks : goal.invariant-picks
invariant-picks l = list_all is_staying (map pick_of l.picks) ≡ list_all is_staying (map pick_of (drop l.pick-index l.picks))
