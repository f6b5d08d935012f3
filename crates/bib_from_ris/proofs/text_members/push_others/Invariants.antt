use Rattle.std.proofs.Common.{◌≡◌, ◌++◌, take}
use Rattle.std.specs.List.{flat_map}
use Rattle.bib_from_ris.specs.Members.{other_line}
use Rattle.bib_from_ris.proofs.text_members.push_others.Given as goal

abbrev pub invariant-lines : goal.invariant-lines
invariant-lines l = l.out ≡ l.initial.out ++ flat_map (other_line l.name l.text) (take l.line-index l.lines)
