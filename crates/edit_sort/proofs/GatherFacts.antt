-- Steps of the loop that gathers the items of a file: the items, the gap before an entry, and the size of a run.
use Rattle.std.proofs.Common.{◌≡◌, ℕ, suc, ◌+◌, ◌-◌, ◌<◌, ◌≤◌, Bool, true, false, cond, List, [], ◌∷◌, ◌++◌, drop, get_or, length, map, take, sym, ap, ◌∙◌, arith, append_assoc, length-drop, drop-cons}
use Rattle.std.proofs.lemmas.List.{map-append, length-take-le, take-take}
use Rattle.bib_text.specs.declared.spanned.Spanned.{Spanned}
use Rattle.bib_syntax.specs.declared.raw.RawEntry.{RawEntry}
use Rattle.bib_syntax.specs.Views.{entry_reading_of}
use Rattle.edit_sort.specs.Sorted.{comment_in, space_in}

-- the entries still to visit are the next one and those after it
pub next_entry : (entries : List (Spanned RawEntry)) (i : ℕ) (e : Spanned RawEntry) → i < length entries → e ≡ get_or entries i e
    → map entry_reading_of (drop i entries) ≡ entry_reading_of e ∷ map entry_reading_of (drop (i + 1) entries)
next_entry entries i e within is =
    let next : suc i ≡ i + 1 = omega arith in
    ap (map entry_reading_of)
    (drop-cons entries i e within ∙ ap (λ x. x ∷ drop (suc i) entries) (sym is) ∙ ap (λ n. e ∷ drop n entries) next)

-- the items so far and those still to visit are all items, also after one more
pub gathered_more : {A B : Type 0} (f : A → B) (old new : List A) (x : A) (y : B) (rest all : List B)
    → new ≡ old ++ x ∷ [] → f x ≡ y → map f old ++ y ∷ rest ≡ all → map f new ++ rest ≡ all
gathered_more f old new x y rest all is same whole =
    ap (λ l. map f l ++ rest) is ∙ ap (λ l. l ++ rest) (map-append f old (x ∷ []))
    ∙ append_assoc (map f old) (f x ∷ []) rest ∙ ap (λ z. map f old ++ z ∷ rest) same ∙ whole

-- the text from the start of a gap to its comment is the space of the gap
pub space_is : (is_first : Bool) (text gap comment : List ℕ) (at start : ℕ) → gap ≡ take (start - at) (drop at text)
    → comment ≡ comment_in is_first gap → at ≤ start → start ≤ length text
    → take ((start - length comment) - at) (drop at text) ≡ space_in is_first (take (start - at) (drop at text))
space_is is_first text gap comment at start gap_is comment_is ordered within =
    let whole = take (start - at) (drop at text) in
    let size : length whole ≡ start - at = length-take-le (start - at) (drop at text) (omega (arith, length-drop at text)) in
    let cut : (start - length comment) - at ≡ length whole - length comment = omega arith in
    ap (λ n. take n (drop at text)) cut ∙ sym (take-take (length whole - length comment) (start - at) (drop at text) (omega arith))
    ∙ ap (λ n. take (length whole - n) whole) (ap length (comment_is ∙ ap (comment_in is_first) gap_is))

pub run_small : (b : Bool) (run index : ℕ) → run ≤ index → cond b (run + 1) run ≤ index + 1
run_small true run index few = omega arith
run_small false run index few = omega arith
