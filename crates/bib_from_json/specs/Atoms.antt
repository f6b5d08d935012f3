-- Machinery: words of private contracts.
-- The elements of styled text that the code compares.
use Rattle.std.specs.Prelude.{ℕ, Bool, true, false}
use Rattle.std.specs.Str.{chars}
use Rattle.bib_chunks.specs.Styled.{Atom}
use Rattle.bib_from_json.specs.declared.comparing.Atom.{Atom as AnAtom}
use Rattle.bib_from_json.specs.declared.comparing.Atom.TheVariants.{Character, Math}

-- a character of styled text; the flag says whether it is verbatim
abbrev pub styled_character : Bool → ℕ → Atom
styled_character true c = Atom.verbatim c
styled_character false c = Atom.normal c

-- an element of styled text
abbrev pub atom_of : AnAtom → Atom
atom_of (Character is_verbatim c) = styled_character is_verbatim c
atom_of (Math text) = Atom.math (chars text.now)
