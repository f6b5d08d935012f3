-- Writing entries one by one.
use Rattle.std.proofs.Common.{◌≡◌, ℕ, zero, suc, ◌+◌, ◌<◌, Bool, true, false, List, [], ◌∷◌, ◌++◌, length, take, get_or, refl, sym, ap, ◌∙◌, append_assoc, arith, Option, Some, None, Ok, Err}
use Rattle.std.specs.Prelude.{codes, ◌==◌}
use Rattle.std.specs.Io.KnownBytes.{Appends}
use Rattle.std.proofs.lemmas.List.{append-nil}
use Rattle.std.proofs.Math.Seq.{take-suc}
use Rattle.bib_entry.specs.WrittenEntries.{entries_text}
use Rattle.bib_entry.specs.declared.entry.Entry.{Entry}
use Rattle.biblatex.specs.Writing.{empty_line_unless}

-- whether a list of entries is empty
abbrev pub is_empty : List Entry → Bool
is_empty [] = true
is_empty (e ∷ es) = false

-- one more entry at the end adds its text, after an empty line unless it is the first entry
one_more : (written : Entry → List ℕ) (es : List Entry) (e : Entry)
    → entries_text written (es ++ e ∷ [])
    ≡ entries_text written es ++ (empty_line_unless (is_empty es) ++ (written e ++ codes "\n"))
one_more written [] e = refl
one_more written (d ∷ []) e = sym (append_assoc (written d) (codes "\n") (codes "\n" ++ (written e ++ codes "\n")))
one_more written (d ∷ next ∷ es) e =
    let more = codes "\n" ++ (written e ++ codes "\n") in
    ap (λ text. written d ++ (codes "\n\n" ++ text)) (one_more written (next ∷ es) e)
    ∙ sym (append_assoc (written d) (codes "\n\n" ++ entries_text written (next ∷ es)) more)

-- a successor is not zero
pub not_suc : (i : ℕ) → false ≡ (suc i == 0)
not_suc i = grind arith

-- a list has no entries below an index in range exactly if the index is 0
pub first_taken : (es : List Entry) (i : ℕ) → i < length es → is_empty (take i es) ≡ (i == 0)
first_taken es zero within = refl
first_taken [] (suc i) within = absurd (omega arith)
first_taken (e ∷ es) (suc i) within = not_suc i

-- the text of the entries up to and including an index is that of the entries before it, and then that of the entry at it
pub next_written : (written : Entry → List ℕ) (es : List Entry) (i : ℕ) (e : Entry) (first : Bool) → i < length es
    → e ≡ get_or es i e → first ≡ (i == 0)
    → entries_text written (take (i + 1) es)
    ≡ entries_text written (take i es) ++ (empty_line_unless first ++ (written e ++ codes "\n"))
next_written written es i e first within is flag =
    let count : i + 1 ≡ suc i = omega arith in
    let taken : take (i + 1) es ≡ take i es ++ e ∷ [] =
    ap (λ n. take n es) count ∙ take-suc es i e within ∙ ap (λ x. take i es ++ x ∷ []) (sym is) in
    ap (entries_text written) taken ∙ one_more written (take i es) e
    ∙ ap (λ b. entries_text written (take i es) ++ (empty_line_unless b ++ (written e ++ codes "\n")))
    (first_taken es i within ∙ sym flag)

-- an index that follows another is not 0
pub not_first : (i : ℕ) → false ≡ (i + 1 == 0)
not_first i = grind arith

-- appending one text after another appends their concatenation
pub appends_more : (a b c : Option (List ℕ)) (xs ys zs : List ℕ) → Appends a b xs → Appends b c ys → zs ≡ xs ++ ys → Appends a c zs
appends_more None b c xs ys zs first second is = tt
appends_more (Some old) None c xs ys zs first second is = absurd first
appends_more (Some old) (Some now) None xs ys zs first second is = absurd second
appends_more (Some old) (Some now) (Some new) xs ys zs first second is =
    second ∙ ap (λ bs. bs ++ ys) first ∙ append_assoc old xs ys ∙ ap (λ bs. old ++ bs) (sym is)

pub appends_nothing : (a : Option (List ℕ)) → Appends a a []
appends_nothing None = tt
appends_nothing (Some bytes) = sym (append-nil bytes)
