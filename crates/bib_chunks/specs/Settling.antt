-- Machinery: words of private contracts.
-- Settled text, decided atom by atom from its start.
use Rattle.std.specs.Prelude.{◌≡◌, ◌↔◌, ◌==◌, ℕ, Bool, true, false, List, [], ◌∷◌, ◌++◌, map}
use Rattle.std.specs.List.{list_any}
use Rattle.std.specs.Str.{chars}
use Rattle.bib_text.specs.Braces.{IsParts}
use Rattle.bib_chunks.specs.Styled.{Atom}
use Rattle.bib_chunks.specs.Settled.{is_pair, IsSettledAtom}
use Rattle.bib_chunks.specs.declared.settling.Before.{Before}
use Rattle.bib_chunks.specs.declared.settling.Before.TheVariants.{Nothing, Normal, Verbatim}
use Rattle.bib_text.specs.Characters as char

-- a character as a verbatim atom if the flag is true, otherwise as a normal one
abbrev pub character_atom : Bool → ℕ → Atom
character_atom true c = Atom.verbatim c
character_atom false c = Atom.normal c

-- the characters of a text as verbatim atoms if the flag is true, otherwise as normal ones
abbrev pub text_atoms : Bool → List ℕ → List Atom
text_atoms is_braced = map (character_atom is_braced)

-- an atom as the `Before` of the next one
abbrev pub neighbour : Atom → Before
neighbour (Atom.normal c) = Normal c
neighbour (Atom.verbatim c) = Verbatim c
neighbour (Atom.math text) = Nothing

-- whether the parser merges an atom with the one before it
abbrev pub runs_into : Before → Atom → Bool
runs_into (Normal c) (Atom.normal d) = is_pair c d
runs_into (Verbatim c) (Atom.verbatim d) = is_pair c d
runs_into before a = false

-- a character may occur after `before`: it is white space only if it is U+0020, and the parser doesn't merge it with
-- `before`
abbrev pub MayFollow : Before → Atom → Type 0
MayFollow before a = IsSettledAtom true a × (runs_into before a ≡ false)

-- atoms are settled after `before`; the flag says whether the field is a verbatim one
abbrev pub AreSettledAfter : Bool → Before → List Atom → Type 0
AreSettledAfter is_verbatim before [] = Unit {0}
AreSettledAfter is_verbatim before (a ∷ rest) =
    IsSettledAtom is_verbatim a × (runs_into before a ≡ false) × AreSettledAfter is_verbatim (neighbour a) rest

-- no text that begins with these atoms is settled after `before`; the flag says whether the field is a verbatim one
abbrev pub IsStuckIn : Bool → Before → List Atom → Type 0
IsStuckIn is_verbatim before atoms = (rest : List Atom) → AreSettledAfter is_verbatim before (atoms ++ rest) → ⊥

-- no text that begins with these atoms is settled after `before`, in a verbatim field or another
abbrev pub IsUnsettledAfter : Before → List Atom → Type 0
IsUnsettledAfter before atoms = (is_verbatim : Bool) → IsStuckIn is_verbatim before atoms

-- For any text, `atoms` and that text are settled after `before` exactly if `more` and that text are settled after `after`. The
-- flag says whether the field is a verbatim one.
abbrev pub ContinuesIn : Bool → Before → List Atom → Before → List Atom → Type 0
ContinuesIn is_verbatim before atoms after more =
    (rest : List Atom) → AreSettledAfter is_verbatim before (atoms ++ rest) ↔ AreSettledAfter is_verbatim after (more ++ rest)

-- `ContinuesIn` holds in verbatim fields and in others
abbrev pub Continues : Before → List Atom → Before → List Atom → Type 0
Continues before atoms after more = (is_verbatim : Bool) → ContinuesIn is_verbatim before atoms after more

-- the math text, in bytes, may occur in settled text outside verbatim fields
abbrev pub IsSettledMath : List ℕ → Type 0
IsSettledMath text = (list_any (λ c. c == char.dollar) (chars text) ≡ false) × IsParts text
