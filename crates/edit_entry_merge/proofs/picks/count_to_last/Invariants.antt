use Rattle.std.proofs.Common.{◌≡◌, map, take}
use Rattle.edit_entry_merge.specs.Working.{count_to_last, pick_of}
use Rattle.edit_entry_merge.proofs.picks.count_to_last.Given as goal

abbrev pub invariant-picks : goal.invariant-picks
invariant-picks l = l.count ≡ count_to_last (map pick_of (take l.index l.picks))
