use Rattle.std.proofs.Common.{arith}
use Rattle.std.proofs.lemmas.Grind.{common_steps}
use Rattle.bib_from_json.specs.Atoms.{atom_of}
use Rattle.bib_from_json.proofs.SameFacts.{image_at}
use Rattle.bib_from_json.proofs.comparing.are_same_atoms.Goals as goal

pub returns-then-not-is_same_atom : goal.returns-then-not-is_same_atom
returns-then-not-is_same_atom c =
    let same = image_at atom_of c.args.a.now c.args.b.now c.atoms.index in
    grind (arith, common_steps, same, c.is_same_atom.ensures, c.if-a-b.false, c.atoms-test.true, c.if-not-is_same_atom.true)
