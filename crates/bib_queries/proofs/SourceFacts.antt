-- The first line of an .aux file that begins with a complete `\bibdata`, which names the .bib files.
use Rattle.std.proofs.Common.{◌≡◌, ◌<◌, ℕ, zero, suc, List, [], ◌∷◌, ◌++◌, drop, take, length, get_or, Some, None, refl, sym, ap, ◌∙◌, arith, append-nil, append_assoc}
use Rattle.std.specs.Option.{option_map_or}
use Rattle.bib_queries.specs.Lines.{aux_data}
use Rattle.bib_queries.specs.Names.{comma_parts}
use Rattle.bib_queries.specs.Sources.{first_data}

-- none of these lines begins with a complete `\bibdata`: the names in further lines are also those in these lines and the further ones
abbrev pub NameNothing : List (List ℕ) → Type 0
NameNothing lines = (rest : List (List ℕ)) → first_data (lines ++ rest) ≡ first_data rest

pub no_lines : NameNothing []
no_lines rest = refl

-- `NameNothing` stays true with one more line that doesn't begin with a complete `\bibdata`
pub nothing_more : (lines : List (List ℕ)) (line : List ℕ) → aux_data line ≡ None → NameNothing lines → NameNothing (lines ++ line ∷ [])
nothing_more lines line none before rest =
    ap first_data (append_assoc lines (line ∷ []) rest) ∙ before (line ∷ rest)
    ∙ ap (λ o. option_map_or comma_parts o (first_data rest)) none

-- if `NameNothing` holds for all lines of a file, the file names no .bib files
pub nothing_named : (lines all : List (List ℕ)) → lines ≡ all → NameNothing lines → first_data all ≡ []
nothing_named lines all same before = ap first_data (sym same ∙ sym (append-nil lines)) ∙ before []

-- a list is its elements before an index, the element at the index, and the elements after it
line_here : (all : List (List ℕ)) (n : ℕ) (line : List ℕ) → n < length all → get_or all n line ≡ line
    → all ≡ take n all ++ line ∷ drop (suc n) all
line_here [] n line within is = absurd (omega (arith, within))
line_here (first ∷ all) zero line within is = ap (λ l. l ∷ all) is
line_here (first ∷ all) (suc n) line within is = ap (λ l. first ∷ l) (line_here all n line (omega (arith, within)) is)

-- the names of the files are those in the first line that begins with a complete `\bibdata`
pub something_named : (lines all : List (List ℕ)) (n : ℕ) (line list : List ℕ) → lines ≡ take n all → n < length all
    → get_or all n line ≡ line → aux_data line ≡ Some list → NameNothing lines → first_data all ≡ comma_parts list
something_named lines all n line list front within is some before =
    ap first_data (line_here all n line within is ∙ ap (λ l. l ++ line ∷ drop (suc n) all) (sym front)) ∙ before (line ∷ drop (suc n) all)
    ∙ ap (λ o. option_map_or comma_parts o (first_data (drop (suc n) all))) some
