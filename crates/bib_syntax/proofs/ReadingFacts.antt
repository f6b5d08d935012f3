-- Facts about parts of a text and about errors in it.
use Rattle.std.proofs.Common.{Bool, true, false, MatchBool, ◌≡◌, ℕ, ◌-◌, ◌≤◌, List, take, drop, ap, ◌∙◌, subst, arith}
use Rattle.bib_text.specs.Places.{Place, CharAt, place, between}
use Rattle.bib_text.proofs.PlaceFacts.{Ahead}
use Rattle.bib_syntax.specs.Reading.{Part, part}
use Rattle.bib_syntax.specs.Errors.{IsSyntaxError}
use Rattle.bib_syntax.specs.declared.raw.ParseError.{ParseError}

-- an error in the text of a place ahead is one in the text of the place
pub error_back : {u v : Place} {e : ParseError} → Ahead u v → IsSyntaxError v.text e → IsSyntaxError u.text e
error_back {u} {v} {e} ahead error = subst (λ t. IsSyntaxError t e) ahead.text error

-- the bytes from a place up to a later one, with their ends, are the part between the two
pub part_from : {u v : Place} (start end : ℕ) (bytes : List ℕ) → Ahead u v → start ≡ u.at → end ≡ v.at
    → bytes ≡ between (place v.text start) v
    → (let p : Part = record { text = bytes; start = start; end = end } in p) ≡ part u v
part_from {u} {v} start end bytes ahead starts ends is =
    let text : bytes ≡ between u v =
    is ∙ ap (λ s. take (v.at - s) (drop s v.text)) starts ∙ ap (λ t. take (v.at - u.at) (drop u.at t)) ahead.text in
    ap (λ t. let p : Part = record { text = t; start = start; end = end } in p) text
    ∙ ap (λ s. let p : Part = record { text = between u v; start = s; end = end } in p) starts
    ∙ ap (λ e. let p : Part = record { text = between u v; start = u.at; end = e } in p) ends

-- the offset of a place isn't after the offset of a place ahead
pub not_after : {u v : Place} (start : ℕ) → Ahead u v → start ≡ u.at → start ≤ v.at
not_after start ahead starts = omega (arith, ahead.at, starts)

-- a character that is at the place is taken
pub taken_if : {u v : Place} (c : ℕ) (b : Bool)
    → MatchBool b (CharAt u c v) ((v ≡ u) × ((w : Place) → CharAt u c w → ⊥)) → ((w : Place) × CharAt u c w)
    → CharAt u c v
taken_if c true char here = char
taken_if c false absent here = absurd (absent.1 here.0 here.1)

-- the bytes that a scanner took, with their ends, are a part of the text
pub part_eaten : (u v : Place) (start end : ℕ) (bytes : List ℕ) → start ≡ u.at → end ≡ v.at → bytes ≡ between u v
    → (let p : Part = record { text = bytes; start = start; end = end } in p) ≡ part u v
part_eaten u v start end bytes starts ends is =
    ap (λ t. let p : Part = record { text = t; start = start; end = end } in p) is
    ∙ ap (λ s. let p : Part = record { text = between u v; start = s; end = end } in p) starts
    ∙ ap (λ e. let p : Part = record { text = between u v; start = u.at; end = e } in p) ends
