use Rattle.std.proofs.Common.{◌≡◌, ◌++◌, map}
use Rattle.bib_from_json.specs.Atoms.{atom_of, styled_character}
use Rattle.bib_from_json.proofs.comparing.push_characters.Given as goal

abbrev pub invariant-text : goal.invariant-text
invariant-text l = map atom_of l.atoms.items ≡ map atom_of l.initial.atoms.items ++ map (styled_character l.is_verbatim) l.yielded
