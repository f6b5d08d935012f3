-- Facts about the lines of a text.
use Rattle.std.proofs.Common.{◌≡◌, ℕ, ◌+◌, ◌<◌, ◌≤◌, Bool, true, false, cond, ◌-◌, List, [], ◌∷◌, ◌++◌, length, take, drop, get_or, refl, ap, sym, ◌∙◌, arith, length-drop}
use Rattle.std.proofs.lemmas.Bool.{eq-eqb, ne_eqb}
use Rattle.std.proofs.lemmas.List.{drop_more, take_more, get_or-drop}
use Rattle.std.specs.Prelude.{◌==◌}
use Rattle.std.specs.List.{concat}
use Rattle.bib_source.specs.Lines.{before_first_line, lines_of}

-- the lines with `bytes` prepended to the first one
abbrev pub after : List ℕ → List (List ℕ) → List (List ℕ)
after [] lines = lines
after (byte ∷ bytes) lines = before_first_line byte (after bytes lines)

-- prepending `bytes` and one more byte is prepending that byte and then `bytes`
pub after_more : (bytes : List ℕ) (byte : ℕ) (lines : List (List ℕ))
    → after (bytes ++ byte ∷ []) lines ≡ after bytes (before_first_line byte lines)
after_more [] byte lines = refl
after_more (b ∷ bytes) byte lines = ap (before_first_line b) (after_more bytes byte lines)

-- prepending `bytes` to a first line of one byte gives the line of both
pub after_ended : (bytes : List ℕ) (byte : ℕ) (lines : List (List ℕ)) → after bytes ((byte ∷ []) ∷ lines) ≡ (bytes ++ byte ∷ []) ∷ lines
after_ended [] byte lines = refl
after_ended (b ∷ bytes) byte lines = ap (before_first_line b) (after_ended bytes byte lines)

-- prepending one or more bytes to no lines gives one line of these bytes
after_all : (byte : ℕ) (bytes : List ℕ) → after (byte ∷ bytes) [] ≡ (byte ∷ bytes) ∷ []
after_all byte [] = refl
after_all byte (b ∷ bytes) = ap (before_first_line byte) (after_all b bytes)

-- prepending bytes to no lines gives one line of these bytes, if there are any
pub after_some : (bytes : List ℕ) → 0 < length bytes → after bytes [] ≡ bytes ∷ []
after_some [] some = let no : ⊥ = omega (arith, some) in absurd no
after_some (byte ∷ bytes) some = after_all byte bytes

concat_before : (byte : ℕ) (lines : List (List ℕ)) → concat (before_first_line byte lines) ≡ byte ∷ concat lines
concat_before byte [] = refl
concat_before byte (line ∷ lines) = refl

concat_choice : (b : Bool) (byte : ℕ) (lines : List (List ℕ))
    → concat (cond b ((byte ∷ []) ∷ lines) (before_first_line byte lines)) ≡ byte ∷ concat lines
concat_choice true byte lines = refl
concat_choice false byte lines = concat_before byte lines

pub lines_are_the_text : (text : List ℕ) → concat (lines_of text) ≡ text
lines_are_the_text [] = refl
lines_are_the_text (byte ∷ bytes) = concat_choice (byte == 10) byte (lines_of bytes) ∙ ap (λ bs. byte ∷ bs) (lines_are_the_text bytes)

-- the bytes from `start` to `index + 1` are the bytes from `start` to `index` and the byte at `index`
next_taken : (text : List ℕ) (start index : ℕ) → start ≤ index → index < length text
    → take (index + 1 - start) (drop start text) ≡ take (index - start) (drop start text) ++ get_or text index 0 ∷ []
next_taken text start index low high =
    let size : index + 1 - start ≡ index - start + 1 = omega arith in
    let at : start + (index - start) ≡ index = omega arith in
    ap (λ n. take n (drop start text)) size
    ∙ take_more (drop start text) (index - start) 0 (omega (arith, length-drop start text))
    ∙ ap (λ b. take (index - start) (drop start text) ++ b ∷ []) (get_or-drop start text (index - start) 0 ∙ ap (λ n. get_or text n 0) at)

-- a line feed at `index` ends the line from `start`
pub ended : (text : List ℕ) (start index : ℕ) → start ≤ index → index < length text → get_or text index 0 ≡ 10
    → after (take (index - start) (drop start text)) (lines_of (drop index text))
    ≡ take (index + 1 - start) (drop start text) ∷ lines_of (drop (index + 1) text)
ended text start index low high is =
    let byte = get_or text index 0 in
    let rest = lines_of (drop (index + 1) text) in
    let bytes = take (index - start) (drop start text) in
    ap (λ t. after bytes (lines_of t)) (drop_more text index 0 high)
    ∙ ap (λ b. after bytes (cond b ((byte ∷ []) ∷ rest) (before_first_line byte rest))) (eq-eqb byte 10 is)
    ∙ after_ended bytes byte rest ∙ ap (λ l. l ∷ rest) (sym (next_taken text start index low high))

-- any other byte at `index` is added to the line from `start`
pub goes_on : (text : List ℕ) (start index : ℕ) → start ≤ index → index < length text → (get_or text index 0 ≡ 10 → ⊥)
    → after (take (index - start) (drop start text)) (lines_of (drop index text))
    ≡ after (take (index + 1 - start) (drop start text)) (lines_of (drop (index + 1) text))
goes_on text start index low high is =
    let byte = get_or text index 0 in
    let rest = lines_of (drop (index + 1) text) in
    let bytes = take (index - start) (drop start text) in
    ap (λ t. after bytes (lines_of t)) (drop_more text index 0 high)
    ∙ ap (λ b. after bytes (cond b ((byte ∷ []) ∷ rest) (before_first_line byte rest))) (ne_eqb byte 10 is)
    ∙ sym (after_more bytes byte rest) ∙ ap (λ bs. after bs rest) (sym (next_taken text start index low high))
