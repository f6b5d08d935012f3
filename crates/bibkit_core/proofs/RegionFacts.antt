-- The position after two texts in a row, from the position after each of them.
use Rattle.std.proofs.Common.{◌≡◌, ◌≤◌, ◌<◌, ◌+◌, ◌-◌, ◌==◌, ◌^◌, if◌then◌else◌, ℕ, zero, suc, Bool, true, false, cond, List, [], ◌∷◌, ◌++◌, length, take, drop, get_or, min, refl, sym, ap, ap₂, subst, ◌∙◌, arith, append_assoc, append-nil, not}
use Rattle.std.proofs.Math.Seq.{take-suc, take-add}
use Rattle.std.proofs.lemmas.Bool.Decides.{nat_tests}
use Rattle.std.proofs.lemmas.List.{take_all}
use Rattle.std.proofs.lemmas.List.Sums.{count_by-le-length}
use Rattle.std.proofs.lemmas.List.{length-drop, length-take}
use Rattle.std.specs.List.{after_last, slice_range, suffix_len}
use Rattle.bib_source.proofs.PositionFacts.{after_byte, after_line_feed}
use Rattle.bib_source.specs.Positions.{begins_character, is_line_feed, position_after, position_at}
use Rattle.bibkit_core.specs.Joining.{joined_position}
use Rattle.bib_source.specs.declared.positions.Position.{Position}

-- the column after two texts, from the column of the first text, and the line and the column of the second one
abbrev column_of : ℕ → ℕ → ℕ → ℕ
column_of first line column = if line == 1 then first + (column - 1) else column

-- the position after two texts, without a bound on numbers
abbrev both : Position → Position → Position
both p q = record { line = p.line + (q.line - 1); column = column_of p.column q.line q.column }

-- in a later line, the column of the first text doesn't count
later_line : (first line column : ℕ) → 1 ≤ line → column_of first (line + 1) column ≡ column
later_line first line column some =
    let isnt : ((line + 1) == 1) ≡ false = grind (arith, nat_tests, some) in
    ap (λ b. cond b (first + (column - 1)) column) isnt

-- if the last line of the second text is wider by `width` columns, so is that of both texts
wider : (b : Bool) (first column width : ℕ) → 1 ≤ column
    → cond b (first + (column + width - 1)) (column + width) ≡ cond b (first + (column - 1)) column + width
wider true first column width some = omega (arith, some)
wider false first column width some = refl

-- with a line feed after the second text, the position is the start of the next line
both_line_feed : (p q : Position) → 1 ≤ q.line
    → both p (record { line = q.line + 1; column = 1 }) ≡ record { line = (both p q).line + 1; column = 1 }
both_line_feed p q some = ap₂ (λ l c. record { line = l; column = c }) (omega (arith, some)) (later_line p.column q.line 1 some)

-- with another byte after the second text, the line is the same
both_byte : (p q : Position) (width : ℕ) → 1 ≤ q.column
    → both p (record { line = q.line; column = q.column + width })
    ≡ record { line = (both p q).line; column = (both p q).column + width }
both_byte p q width some =
    ap (λ c. record { line = p.line + (q.line - 1); column = c }) (wider (q.line == 1) p.column q.column width some)

-- if `both` gives the position after two texts, so it does with one more byte of the second text
both_more : (xs zs : List ℕ) (byte : ℕ) (b : Bool) → is_line_feed byte ≡ b
    → both (position_after xs) (position_after zs) ≡ position_after (xs ++ zs)
    → both (position_after xs) (position_after (zs ++ byte ∷ [])) ≡ position_after ((xs ++ zs) ++ byte ∷ [])
both_more xs zs byte true is before =
    ap (both (position_after xs)) (after_line_feed zs byte is)
    ∙ both_line_feed (position_after xs) (position_after zs) (omega arith)
    ∙ ap (λ (m : Position). record { line = m.line + 1; column = 1 }) before
    ∙ sym (after_line_feed (xs ++ zs) byte is)
both_more xs zs byte false isnt before =
    ap (both (position_after xs)) (after_byte zs byte isnt)
    ∙ both_byte (position_after xs) (position_after zs) (cond (begins_character byte) 1 0) (omega arith)
    ∙ ap (λ (m : Position). record { line = m.line; column = m.column + cond (begins_character byte) 1 0 }) before
    ∙ sym (after_byte (xs ++ zs) byte isnt)

-- the position after an empty second text is that after the first text
both_none : (xs : List ℕ) → both (position_after xs) (position_after []) ≡ position_after (xs ++ [])
both_none xs =
    ap₂ (λ l c. record { line = l; column = c }) (omega arith) (omega arith) ∙ ap position_after (sym (append-nil xs))

-- `both` gives the position after the first text and the first `n` bytes of the second one
both_taken : (xs ys : List ℕ) (n : ℕ) → n ≤ length ys
    → both (position_after xs) (position_after (take n ys)) ≡ position_after (xs ++ take n ys)
both_taken xs ys zero within = both_none xs
both_taken xs ys (suc n) within =
    let below : n < length ys = omega (arith, within) in
    let byte = get_or ys n 0 in
    let earlier : n ≤ length ys = omega (arith, within) in
    ap (λ zs. both (position_after xs) (position_after zs)) (take-suc ys n 0 below)
    ∙ both_more xs (take n ys) byte (is_line_feed byte) refl (both_taken xs ys n earlier)
    ∙ ap position_after (append_assoc xs (take n ys) (byte ∷ []))
    ∙ ap (λ zs. position_after (xs ++ zs)) (sym (take-suc ys n 0 below))

-- `both` gives the position after two texts
both_texts : (xs ys : List ℕ) → both (position_after xs) (position_after ys) ≡ position_after (xs ++ ys)
both_texts xs ys =
    ap (λ zs. both (position_after xs) (position_after zs)) (sym (take_all (length ys) ys (omega arith)))
    ∙ both_taken xs ys (length ys) (omega arith)
    ∙ ap (λ zs. position_after (xs ++ zs)) (take_all (length ys) ys (omega arith))

-- the line is at most one more than the number of bytes; so is the column, by the next lemma
line_bound : (text : List ℕ) → (position_after text).line ≤ length text + 1
line_bound text = omega (arith, count_by-le-length is_line_feed text)

column_bound : (text : List ℕ) → (position_after text).column ≤ length text + 1
column_bound text =
    let skipped = length text - suffix_len (λ b. not (is_line_feed b)) text in
    omega (arith, count_by-le-length begins_character (after_last is_line_feed text), length-drop skipped text)

-- numbers that are small enough aren't changed by the bound
unbounded : (p q : Position) → (both p q).line < 2 ^ 64 → (both p q).column < 2 ^ 64 → joined_position p q ≡ both p q
unbounded p q line column = go (q.line == 1) column where
  go : (b : Bool) → cond b (p.column + (q.column - 1)) q.column < 2 ^ 64
      → ◌≡◌ {A = Position}
      (record {
        line = min (p.line + (q.line - 1)) (2 ^ 64 - 1);
        column = cond b (min (p.column + (q.column - 1)) (2 ^ 64 - 1)) q.column;
      })
      (record { line = p.line + (q.line - 1); column = cond b (p.column + (q.column - 1)) q.column })
  go true column = ap₂ (λ l c. record { line = l; column = c }) (omega (arith, line)) (omega (arith, column))
  go false column = ap (λ l. record { line = l; column = q.column }) (omega (arith, line))

-- the position of the offset `to`, from that of an offset `at` up to it, and that of `to - at` in the bytes after `at`; the number of bytes
-- is less than 2^64 - 1
pub joined_at : (bytes rest : List ℕ) (at to : ℕ) → length bytes + 1 < 2 ^ 64 → rest ≡ slice_range bytes at (length bytes) → at ≤ to
    → joined_position (position_at bytes at) (position_at rest (to - at)) ≡ position_at bytes to
joined_at bytes rest at to small is later =
    let parts : take at bytes ++ take (to - at) (drop at bytes) ≡ take to bytes =
    sym (take-add at (to - at) bytes) ∙ ap (λ n. take n bytes) (omega (arith, later)) in
    let whole : both (position_at bytes at) (position_at rest (to - at)) ≡ position_at bytes to =
    ap (λ r. both (position_at bytes at) (position_at r (to - at)))
    (is ∙ take_all (length bytes - at) (drop at bytes) (omega (arith, length-drop at bytes)))
    ∙ both_texts (take at bytes) (take (to - at) (drop at bytes)) ∙ ap position_after parts in
    let l = line_bound (take to bytes) in
    let c = column_bound (take to bytes) in
    let n : length (take to bytes) ≤ length bytes = omega (arith, length-take to bytes) in
    unbounded (position_at bytes at) (position_at rest (to - at))
    (subst (λ (p : Position). p.line < 2 ^ 64) (sym whole) (omega (arith, l, n, small)))
    (subst (λ (p : Position). p.column < 2 ^ 64) (sym whole) (omega (arith, c, n, small)))
    ∙ whole
