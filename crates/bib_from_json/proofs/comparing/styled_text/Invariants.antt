use Rattle.std.proofs.Common.{◌≡◌, map, take}
use Rattle.bib_chunks.specs.Styled.{styled}
use Rattle.bib_from_json.specs.Atoms.{atom_of}
use Rattle.bib_from_json.proofs.comparing.styled_text.Given as goal

abbrev pub invariant-chunks : goal.invariant-chunks
invariant-chunks l = map atom_of l.atoms.items ≡ styled (take l.chunk-index l.chunks)
