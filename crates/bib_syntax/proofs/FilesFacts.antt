-- Files in one text: where they begin and end.
use Rattle.std.proofs.Common.{◌≡◌, ℕ, zero, suc, ◌+◌, ◌<◌, ◌≤◌, arith, length, List, [], ◌∷◌, ◌++◌, Some, refl, sym, ap, ◌∙◌, subst, append_assoc, length-append, take, drop, get_or}
use Rattle.std.specs.Prelude.{slice_get}
use Rattle.std.specs.Str.{IsCharBoundary, IsUtf8}
use Rattle.std.specs.List.{slice_index}
use Rattle.std.proofs.lemmas.List.{get_or-take, length-take-le}
use Rattle.std.proofs.lemmas.Option.{get_or_from_slice_get, slice_get_within, slice_get-get_or}
use Rattle.std.proofs.lemmas.Str.{IsCharBoundary-after_ascii, IsCharBoundary-before_ascii}
use Rattle.std.proofs.Math.ListN.{get_or-append}
use Rattle.std.proofs.Math.Seq.{drop-cons}
use Rattle.bib_text.proofs.ListFacts.{get_here}
use Rattle.bib_syntax.specs.Files.{AreFiles}

-- an element of a list keeps its index if the list gets longer
get_longer : (xs more : List ℕ) (i x : ℕ) → slice_get xs i ≡ Some x → slice_get (xs ++ more) i ≡ Some x
get_longer xs more i x is =
    let within = slice_get_within xs i x is in
    let longer : i < length (xs ++ more) = omega (arith, within, length-append xs more) in
    slice_get-get_or (xs ++ more) i 0 longer ∙ ap Some (get_or-append xs more 0 i within ∙ get_or_from_slice_get xs i x 0 is)

-- if a file, a percent sign and a line feed are appended to a text, the files of the text and this file are files in the new text
pub one_more : (text file : List ℕ) (start : ℕ) (ends : List ℕ) → start ≤ length text → AreFiles text start ends
    → AreFiles (text ++ (file ++ 37 ∷ 10 ∷ [])) start (ends ++ (length text + length file) ∷ [])
one_more text file start [] within is =
    let whole = text ++ (file ++ 37 ∷ 10 ∷ []) in
    let size = length-append text file in
    let marks : (text ++ file) ++ 37 ∷ 10 ∷ [] ≡ whole = append_assoc text file (37 ∷ 10 ∷ []) in
    let next : (text ++ (file ++ 37 ∷ [])) ++ 10 ∷ [] ≡ whole =
    append_assoc text (file ++ 37 ∷ []) (10 ∷ []) ∙ ap (λ xs. text ++ xs) (append_assoc file (37 ∷ []) (10 ∷ [])) in
    let past : length (text ++ (file ++ 37 ∷ [])) ≡ length text + length file + 1 =
    length-append text (file ++ 37 ∷ []) ∙ ap (λ n. length text + n) (length-append file (37 ∷ []))
    ∙ omega arith in (
      omega (arith, within),
      ap (λ xs. slice_get xs (length text + length file)) (sym marks) ∙ ap (slice_get ((text ++ file) ++ 37 ∷ 10 ∷ [])) (sym size)
          ∙ get_here (text ++ file) 37 (10 ∷ []),
      ap (λ xs. slice_get xs (length text + length file + 1)) (sym next)
          ∙ ap (slice_get ((text ++ (file ++ 37 ∷ [])) ++ 10 ∷ [])) (sym past) ∙ get_here (text ++ (file ++ 37 ∷ [])) 10 [],
      _,
    )
one_more text file start (end ∷ ends) within is = (
  is.0,
  get_longer text (file ++ 37 ∷ 10 ∷ []) end 37 is.1,
  get_longer text (file ++ 37 ∷ 10 ∷ []) (end + 1) 10 is.2,
  one_more text file (end + 2) ends (omega (arith, slice_get_within text (end + 1) 10 is.2)) is.3,
)

-- the files from an index on are the file there and those after it
pub next_file : (ends : List ℕ) (i : ℕ) → i < length ends → drop i ends ≡ get_or ends i 0 ∷ drop (i + 1) ends
next_file ends i within =
    let next : suc i ≡ i + 1 = omega arith in
    drop-cons ends i 0 within ∙ ap (λ n. get_or ends i 0 ∷ drop n ends) next

-- if the files from an index on are files in the text, so are the file at the index and those after it
pub this_file : (text ends : List ℕ) (start i : ℕ) → i < length ends → AreFiles text start (drop i ends)
    → AreFiles text start (get_or ends i 0 ∷ drop (i + 1) ends)
this_file text ends start i within are = subst (AreFiles text start) (next_file ends i within) are

-- no element is left if at least as many elements as a list has are dropped
pub drop_all : {A : Type 0} (xs : List A) (n : ℕ) → length xs ≤ n → drop n xs ≡ []
drop_all [] zero all = refl
drop_all [] (suc n) all = refl
drop_all (x ∷ xs) zero all = absurd (omega (arith, all))
drop_all (x ∷ xs) (suc n) all = drop_all xs n (omega (arith, all))

-- files in a text are also files in a longer text
pub files_longer : (text more : List ℕ) (start : ℕ) (ends : List ℕ) → AreFiles text start ends → AreFiles (text ++ more) start ends
files_longer text more start [] is = _
files_longer text more start (end ∷ ends) is = (
  is.0,
  get_longer text more end 37 is.1,
  get_longer text more (end + 1) 10 is.2,
  files_longer text more (end + 2) ends is.3,
)

-- a file ends at a character boundary
pub end_boundary : (text : List ℕ) (end : ℕ) → slice_get text end ≡ Some 37 → IsCharBoundary text end
end_boundary text end is =
    let here : get_or text end 0 ≡ 37 = get_or_from_slice_get text end 37 0 is in
    IsCharBoundary-before_ascii text end (slice_get_within text end 37 is) (omega (arith, here))

-- in UTF-8 text, the next file begins at a character boundary
pub next_boundary : (text : List ℕ) (end : ℕ) → IsUtf8 text → slice_get text (end + 1) ≡ Some 10 → IsCharBoundary text (end + 2)
next_boundary text end utf8 is =
    let here : get_or text (end + 1) 0 ≡ 10 = get_or_from_slice_get text (end + 1) 10 0 is in
    let next : end + 1 + 1 ≡ end + 2 = omega arith in
    subst (IsCharBoundary text) next
    (IsCharBoundary-after_ascii text (end + 1) utf8 (slice_get_within text (end + 1) 10 is) (omega (arith, here)))

-- a character boundary of a text is also one of the text up to an offset that isn't before it
pub boundary_cut : (text : List ℕ) (start end : ℕ) → end ≤ length text → start ≤ end → IsCharBoundary text start
    → IsCharBoundary (take end text) start
boundary_cut text start end within ordered is =
    let size = length-take-le end text within in (
      omega (arith, size, ordered),
      (λ inside high.
          let inner : start < end = omega (arith, size, inside) in
          let same : slice_index (take end text) start ≡ slice_index text start = get_or-take end text start 0 inner in
          subst (λ b. 192 ≤ b) (sym same) (is.1 (omega (arith, inner, within)) (subst (λ b. 128 ≤ b) same high))),
    )

-- each file ends in the text
pub ends_within : (text : List ℕ) (start : ℕ) (ends : List ℕ) → AreFiles text start ends → (k d : ℕ) → k < length ends
    → get_or ends k d < length text
ends_within text start [] are k d below = absurd (omega (arith, below))
ends_within text start (end ∷ ends) are zero d below = slice_get_within text end 37 are.1
ends_within text start (end ∷ ends) are (suc k) d below = ends_within text (end + 2) ends are.3 k d (omega (arith, below))
