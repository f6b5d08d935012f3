-- Facts about tables of names.
use Rattle.std.proofs.Common.{◌≡◌, ℕ, Bool, true, false, List, [], ◌∷◌, ◌++◌, Option, None, Some, refl, map, arith, cond, bytes_eq}
use Rattle.std.proofs.lemmas.Slice.Eq.{bytes_eq-Decides}
use Rattle.bib_text.specs.Enums.{value_named}

-- `text` is none of these names
abbrev pub IsNoneOf : List (List ℕ) → List ℕ → Type 0
IsNoneOf [] text = Unit {0}
IsNoneOf (name ∷ names) text = (text ≡ name → ⊥) × IsNoneOf names text

-- a table has no value for a text that is none of its names
pub named_none : {A : Type 0} (rows : List (List ℕ × A)) (text : List ℕ) → IsNoneOf (map (λ row. row.0) rows) text
    → value_named rows text ≡ None
named_none [] text none = refl
named_none (row ∷ rows) text none = search (arith, none.0, named_none rows text none.1, bytes_eq-Decides)

-- a value in the first of two concatenated tables is found
pub named-append-some : {A : Type 0} (rows more : List (List ℕ × A)) (text : List ℕ) (value : A)
    → value_named rows text ≡ Some value → value_named (rows ++ more) text ≡ Some value
named-append-some [] more text value found = cc
named-append-some (row ∷ rows) more text value found =
    here (bytes_eq row.0 text) (value_named rows text) (value_named (rows ++ more) text) row.1 value
    (named-append-some rows more text value) found
  where
    here : {A : Type 0} (is_here : Bool) (first all : Option A) (this value : A) → (first ≡ Some value → all ≡ Some value)
        → cond is_here (Some this) first ≡ Some value → cond is_here (Some this) all ≡ Some value
    here true first all this value following found = found
    here false first all this value following found = following found

-- a name that the first table lacks is looked up in the second one
pub named-append-none : {A : Type 0} (rows more : List (List ℕ × A)) (text : List ℕ) → value_named rows text ≡ None
    → value_named (rows ++ more) text ≡ value_named more text
named-append-none [] more text none = refl
named-append-none (row ∷ rows) more text none =
    here (bytes_eq row.0 text) (value_named rows text) (value_named (rows ++ more) text) (value_named more text) row.1
    (named-append-none rows more text) none
  where
    here : {A : Type 0} (is_here : Bool) (first all rest : Option A) (this : A) → (first ≡ None → all ≡ rest)
        → cond is_here (Some this) first ≡ None → cond is_here (Some this) all ≡ rest
    here true first all rest this following none = cc
    here false first all rest this following none = following none
