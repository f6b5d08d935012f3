-- Contents have at most one parse.
use Rattle.std.proofs.Common.{◌≡◌, ℕ, zero, suc, Bool, true, false, List, [], ◌∷◌, ◌++◌, refl, sym, ap, ◌∙◌, Some}
use Rattle.std.proofs.lemmas.Bool.{both_ways}
use Rattle.std.proofs.lemmas.List.{append_cancel_left}
use Rattle.bib_chunks.specs.Styled.{Atom}
use Rattle.bib_contents.specs.Contents.{ContentUnit, Argument, unit_spelling, fits, IsNext, meaning, depth_after, inner_text, Reads}
use Rattle.bib_contents.specs.Contents.Reads.{end, next}
use Rattle.bib_contents.proofs.UnitFacts.{first_unit, unit_first}

-- a text begins with at most one unit
pub unit_same : {is_verbatim : Bool} {u w : ContentUnit} {text rest more : List ℕ} → IsNext is_verbatim u text rest
    → IsNext is_verbatim w text more → u ≡ w
unit_same {is_verbatim} {u} {w} {text} {rest} {more} one two =
    sym (unit_first is_verbatim u rest one.fits) ∙ ap (first_unit is_verbatim) (sym one.spells ∙ two.spells)
    ∙ unit_first is_verbatim w more two.fits

-- the text after the first unit is the same
pub rest_same : {is_verbatim : Bool} {u w : ContentUnit} {text rest more : List ℕ} → IsNext is_verbatim u text rest
    → IsNext is_verbatim w text more → rest ≡ more
rest_same {is_verbatim} {u} {w} {text} {rest} {more} one two =
    append_cancel_left (unit_spelling u) rest more
    (sym one.spells ∙ two.spells ∙ ap (λ x. unit_spelling x ++ more) (sym (unit_same one two)))

-- a unit that fits has at least one character
no_unit_of_nothing : (is_verbatim : Bool) (u : ContentUnit) (rest : List ℕ) → fits is_verbatim u rest ≡ true
    → [] ≡ unit_spelling u ++ rest → ⊥
no_unit_of_nothing is_verbatim (ContentUnit.hyphens zero) rest right spells = both_ways false refl right
no_unit_of_nothing is_verbatim (ContentUnit.hyphens (suc n)) rest right spells = cc
no_unit_of_nothing is_verbatim (ContentUnit.spaces []) rest right spells = both_ways false refl right
no_unit_of_nothing is_verbatim (ContentUnit.spaces (c ∷ cs)) rest right spells = cc
no_unit_of_nothing is_verbatim ContentUnit.opening rest right spells = cc
no_unit_of_nothing is_verbatim ContentUnit.closing rest right spells = cc
no_unit_of_nothing is_verbatim (ContentUnit.escaped c) rest right spells = cc
no_unit_of_nothing is_verbatim ContentUnit.backslash rest right spells = cc
no_unit_of_nothing is_verbatim (ContentUnit.copied c) rest right spells = cc
no_unit_of_nothing is_verbatim (ContentUnit.formula text) rest right spells = cc
no_unit_of_nothing is_verbatim (ContentUnit.command name space argument) rest right spells = cc
no_unit_of_nothing is_verbatim (ContentUnit.other c) rest right spells = cc

-- an empty text begins with no unit
pub no_unit_at_end : {is_verbatim : Bool} {u : ContentUnit} {rest : List ℕ} → IsNext is_verbatim u [] rest → ⊥
no_unit_at_end {is_verbatim} {u} {rest} one = no_unit_of_nothing is_verbatim u rest one.fits one.spells

-- the atoms of a unit are the same for equal atoms of its argument in braces, or if it has no such argument
meaning_same : (depth : ℕ) (u : ContentUnit) (inner more : List Atom)
    → ((text : List ℕ) → inner_text u ≡ Some text → inner ≡ more) → meaning depth u inner ≡ meaning depth u more
meaning_same depth (ContentUnit.hyphens n) inner more same = refl
meaning_same depth (ContentUnit.spaces cs) inner more same = refl
meaning_same depth ContentUnit.opening inner more same = refl
meaning_same depth ContentUnit.closing inner more same = refl
meaning_same depth (ContentUnit.escaped c) inner more same = refl
meaning_same depth ContentUnit.backslash inner more same = refl
meaning_same depth (ContentUnit.copied c) inner more same = refl
meaning_same depth (ContentUnit.formula text) inner more same = refl
meaning_same depth (ContentUnit.command name space Argument.without) inner more same = refl
meaning_same depth (ContentUnit.command name space Argument.empty) inner more same = refl
meaning_same depth (ContentUnit.command name space (Argument.single c)) inner more same = refl
meaning_same depth (ContentUnit.command name space (Argument.braced text)) inner more same =
    ap (meaning depth (ContentUnit.command name space (Argument.braced text))) (same text refl)
meaning_same depth (ContentUnit.other c) inner more same = refl

-- contents have at most one parse
pub read_same : {is_verbatim : Bool} {depth : ℕ} {text : List ℕ} {first second : List Atom}
    → Reads is_verbatim depth text first → Reads is_verbatim depth text second → first ≡ second
read_same end end = refl
read_same end (next one closable argument rest) = absurd (no_unit_at_end one)
read_same (next one closable argument rest) end = absurd (no_unit_at_end one)
read_same {is_verbatim} {depth} (next {u = u} {rest = left} {inner = inner} {atoms = atoms} one closable argument rest)
    (next {u = w} {rest = left'} {inner = inner'} {atoms = atoms'} two closable' argument' rest') =
    let same : u ≡ w = unit_same one two in
    let tail : left ≡ left' = rest_same one two in
    let inside : (text : List ℕ) → inner_text u ≡ Some text → inner ≡ inner' =
    λ t holds. read_same (argument t holds) (argument' t (rw same at holds)) in
    let following : Reads is_verbatim (depth_after depth u) left atoms' = rw (same, tail) rest' in
    ap (λ xs. xs ++ atoms) (meaning_same depth u inner inner' inside)
    ∙ ap (λ xs. meaning depth u inner' ++ xs) (read_same rest following)
    ∙ ap (λ x. meaning depth x inner' ++ atoms') same
