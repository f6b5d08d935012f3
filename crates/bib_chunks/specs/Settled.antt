-- Meaning: words of public contracts.
-- Settled text: conditions on styled text under which it parses back to itself once it is written.
use Rattle.std.specs.Prelude.{◌≡◌, ℕ, Bool, true, false, ◌==◌, ◌&&◌, ◌||◌, List, [], ◌∷◌, encode_utf8_all}
use Rattle.std.specs.Char.{is_whitespace}
use Rattle.std.specs.List.{list_any, AllByRecursion}
use Rattle.bib_text.specs.Braces.{IsParts}
use Rattle.bib_chunks.specs.Styled.{Atom}
use Rattle.bib_text.specs.Characters as char

-- an atom that may occur in settled text. A normal or verbatim character may be white space only if it is U+0020. Math
-- requires a field that isn't verbatim. It contains no `$`, its unescaped braces balance, and no unescaped backslash ends it.
abbrev pub IsSettledAtom : Bool → Atom → Type 0
IsSettledAtom is_verbatim (Atom.normal c) = is_whitespace c ≡ true → c ≡ char.space
IsSettledAtom is_verbatim (Atom.verbatim c) = is_whitespace c ≡ true → c ≡ char.space
IsSettledAtom is_verbatim (Atom.math text) =
    (is_verbatim ≡ false) × (list_any (λ c. c == char.dollar) text ≡ false) × IsParts (encode_utf8_all text)

-- two characters that the parser reads as one if they are neighbours: two spaces, or two hyphens
abbrev pub is_pair : ℕ → ℕ → Bool
is_pair c d = (c == char.space && d == char.space) || (c == char.hyphen && d == char.hyphen)

-- whether the parser merges two neighbouring atoms: two spaces or two hyphens that are both normal or both verbatim
abbrev pub runs_together : Atom → Atom → Bool
runs_together (Atom.normal c) (Atom.normal d) = is_pair c d
runs_together (Atom.verbatim c) (Atom.verbatim d) = is_pair c d
runs_together a b = false

-- the parser merges no two neighbouring atoms
abbrev pub AreApart : List Atom → Type 0
AreApart [] = Unit {0}
AreApart (a ∷ []) = Unit {0}
AreApart (a ∷ b ∷ rest) = (runs_together a b ≡ false) × AreApart (b ∷ rest)

-- a styled text is settled; the flag says whether its field is a verbatim one
pub record IsSettled (atoms : List Atom) (is_verbatim : Bool) : Type 0 where
  pub each : AllByRecursion (IsSettledAtom is_verbatim) atoms
  pub apart : AreApart atoms
