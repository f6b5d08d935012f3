use Rattle.std.proofs.Common.{◌≡◌, ◌++◌, map, take}
use Rattle.std.specs.List.{flat_map}
use Rattle.std.specs.String.{string_bytes}
use Rattle.bibkit_edits.specs.UninheritedNotes.{next_name}
use Rattle.bibkit_edits.proofs.uninherited_notes.name_list.Given as goal

abbrev pub invariant-more : goal.invariant-more
invariant-more l =
    string_bytes l.list ≡ string_bytes l.initial.list ++ flat_map next_name (map (λ name. name.now) (take l.name-index l.more))
