use Rattle.std.proofs.Common.{◌≡◌, take}
use Rattle.std.specs.List.{flat_map}
use Rattle.bib_from_ris.specs.Members.{name_in}
use Rattle.bib_from_ris.proofs.members.names_in.Given as goal

abbrev pub invariant-lines : goal.invariant-lines
invariant-lines l = l.names ≡ flat_map (name_in l.name) (take l.line-index l.lines)
