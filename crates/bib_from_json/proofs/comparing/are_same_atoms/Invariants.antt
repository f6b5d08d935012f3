use Rattle.std.proofs.Common.{◌≡◌, map, take}
use Rattle.bib_from_json.specs.Atoms.{atom_of}
use Rattle.bib_from_json.proofs.comparing.are_same_atoms.Given as goal

abbrev pub invariant-atoms : goal.invariant-atoms
invariant-atoms l = map atom_of (take l.index l.a) ≡ map atom_of (take l.index l.b)
