-- How positions change from byte to byte.
use Rattle.std.proofs.Common.{◌≡◌, ◌+◌, ◌-◌, ℕ, Bool, true, false, not, cond, List, [], ◌∷◌, ◌++◌, drop, length, ap, ap₂, ◌∙◌, arith, length-append}
use Rattle.std.specs.List.{after_last, count_by, suffix_len, prefix_len}
use Rattle.std.proofs.Math.Seq.{drop-length}
use Rattle.std.proofs.lemmas.List.{reverse-append, drop-append-le}
use Rattle.std.proofs.lemmas.List.Sums.{suffix_len-le-length}
use Rattle.bib_source.specs.Positions.{position_after, is_line_feed, begins_character}
use Rattle.bib_text.proofs.ListFacts.{count_more}

-- the number of passing elements at the end of a list, with one more element
suffix_more : {X : Type 0} (p : X → Bool) (xs : List X) (x : X) → suffix_len p (xs ++ x ∷ []) ≡ cond (p x) (1 + suffix_len p xs) 0
suffix_more p xs x = ap (prefix_len p) (reverse-append xs (x ∷ []))

-- no element comes after the last passing one, if one more element passes
after_one : {X : Type 0} (p : X → Bool) (xs : List X) (x : X) → p x ≡ true → after_last p (xs ++ x ∷ []) ≡ []
after_one p xs x is =
    let none : suffix_len (λ y. not (p y)) (xs ++ x ∷ []) ≡ 0 =
    suffix_more (λ y. not (p y)) xs x ∙ ap (λ b. cond (not b) (1 + suffix_len (λ y. not (p y)) xs) 0) is in
    let all : length (xs ++ x ∷ []) - suffix_len (λ y. not (p y)) (xs ++ x ∷ []) ≡ length (xs ++ x ∷ []) = omega (arith, none) in
    ap (λ n. drop n (xs ++ x ∷ [])) all ∙ drop-length (xs ++ x ∷ [])

-- an appended element that fails is added to the elements after the last passing one
after_other : {X : Type 0} (p : X → Bool) (xs : List X) (x : X) → p x ≡ false → after_last p (xs ++ x ∷ []) ≡ after_last p xs ++ x ∷ []
after_other p xs x isnt =
    let one : suffix_len (λ y. not (p y)) (xs ++ x ∷ []) ≡ 1 + suffix_len (λ y. not (p y)) xs =
    suffix_more (λ y. not (p y)) xs x ∙ ap (λ b. cond (not b) (1 + suffix_len (λ y. not (p y)) xs) 0) isnt in
    let left : length (xs ++ x ∷ []) - suffix_len (λ y. not (p y)) (xs ++ x ∷ [])
    ≡ length xs - suffix_len (λ y. not (p y)) xs =
    omega (arith, one, length-append xs (x ∷ []), suffix_len-le-length (λ y. not (p y)) xs) in
    ap (λ n. drop n (xs ++ x ∷ [])) left ∙ drop-append-le (length xs - suffix_len (λ y. not (p y)) xs) xs (x ∷ []) (omega arith)

-- the position after a line feed
pub after_line_feed : (before : List ℕ) (byte : ℕ) → is_line_feed byte ≡ true
    → position_after (before ++ byte ∷ []) ≡ record { line = (position_after before).line + 1; column = 1 }
after_line_feed before byte is = ap₂ (λ l c. record { line = l; column = c })
    (ap (λ n. n + 1) (count_more is_line_feed before byte ∙ ap (λ b. count_by is_line_feed before + cond b 1 0) is))
    (ap (λ text. count_by begins_character text + 1) (after_one is_line_feed before byte is))

-- the position after another byte
pub after_byte : (before : List ℕ) (byte : ℕ) → is_line_feed byte ≡ false
    → position_after (before ++ byte ∷ [])
    ≡ record {
      line = (position_after before).line;
      column = (position_after before).column + cond (begins_character byte) 1 0;
    }
after_byte before byte isnt = ap₂ (λ l c. record { line = l; column = c })
    (ap (λ n. n + 1) (count_more is_line_feed before byte ∙ ap (λ b. count_by is_line_feed before + cond b 1 0) isnt ∙ omega arith))
    (ap (λ text. count_by begins_character text + 1) (after_other is_line_feed before byte isnt)
    ∙ ap (λ n. n + 1) (count_more begins_character (after_last is_line_feed before) byte) ∙ omega arith)
