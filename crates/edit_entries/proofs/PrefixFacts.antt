-- Two texts with the same bytes up to a byte offset.
use Rattle.std.proofs.Common.{◌≡◌, inl, inr, ℕ, zero, suc, ◌+◌, ◌-◌, ◌<◌, ◌≤◌, Bool, true, false, cond, ◌⊎◌, List, [], ◌∷◌, length, take, refl, sym, ap, ◌∙◌, arith}
use Rattle.std.specs.Prelude.{◌==◌, slice_get}
use Rattle.std.specs.Char.{is_ascii_whitespace}
use Rattle.std.specs.List.{list_any, prefix_len}
use Rattle.std.specs.Option.{option_map_or}
use Rattle.std.proofs.lemmas.Bool.{cases_lt}
use Rattle.bib_text.proofs.PlaceFacts.{test_clash}
use Rattle.bib_queries.specs.Bytes.{has_byte_at, has_percent}
use Rattle.edit_entries.specs.Unset.{after_bytes, after_comment, gap_end, is_no_line_feed}
use Rattle.edit_entries.proofs.AgreementFacts.{same_bytes}
use Rattle.edit_entries.proofs.GapEndFacts.{after_within, before_end, stopped}

get_take : (xs : List ℕ) (at n : ℕ) → n < at → slice_get (take at xs) n ≡ slice_get xs n
get_take xs zero n less = absurd (omega (arith, less))
get_take [] (suc at) n less = refl
get_take (x ∷ xs) (suc at) zero less = refl
get_take (x ∷ xs) (suc at) (suc n) less = get_take xs at n (omega (arith, less))

module _ (x y : List ℕ) (at : ℕ) (same : take at x ≡ take at y) where
  pub byte_prefix : (n c : ℕ) → n < at → has_byte_at x n c ≡ has_byte_at y n c
  byte_prefix n c less =
      ap (λ o. option_map_or (λ b. b == c) o false) (sym (get_take x at n less) ∙ ap (λ l. slice_get l n) same ∙ get_take y at n less)

  pub percent_prefix : (start end : ℕ) → start ≤ at → end ≤ at → has_percent x start end ≡ has_percent y start end
  percent_prefix start end first last =
      ap (list_any (λ b. b == 37)) (same_bytes x y at start (end - start) same (omega (arith, first, last)))

  pub after_prefix : (test : ℕ → Bool) (start end : ℕ) → start ≤ at → end ≤ at
      → after_bytes test x start end ≡ after_bytes test y start end
  after_prefix test start end first last =
      ap (λ l. start + prefix_len test l) (same_bytes x y at start (end - start) same (omega (arith, first, last)))

  -- `gap_end` is the same in both texts, if its start and its bound are before the byte offset
  pub gap_prefix : (start end : ℕ) → start < at → end < at → gap_end x start end ≡ gap_end y start end
  gap_prefix start end first last =
      let s : ℕ = after_bytes is_ascii_whitespace y start end in
      let n : ℕ = after_bytes is_no_line_feed y s end in
      let most : ℕ = at - 1 in
      let s_in : s ≤ most = after_within is_ascii_whitespace y start end most (omega (arith, first)) (omega (arith, last)) in
      let n_in : n ≤ most = after_within is_no_line_feed y s end most s_in (omega (arith, last)) in
      ap (λ m. after_comment x m end) (after_prefix is_ascii_whitespace start end (omega (arith, first)) (omega (arith, last)))
      ∙ ap (λ b. cond b (after_bytes is_ascii_whitespace x (after_bytes is_no_line_feed x s end) end) s)
      (byte_prefix s 37 (omega (arith, s_in, first)))
      ∙ ap (λ m. cond (has_byte_at y s 37) (after_bytes is_ascii_whitespace x m end) s)
      (after_prefix is_no_line_feed s end (omega (arith, s_in)) (omega (arith, last)))
      ∙ ap (λ m. cond (has_byte_at y s 37) m s)
      (after_prefix is_ascii_whitespace n end (omega (arith, n_in)) (omega (arith, last)))

  -- if the first byte that fails a test is before the byte offset, it is at the same place in both texts. This holds if the end in the
  -- text `x` is at or after this place
  after_found : (test : ℕ → Bool) (start end end' n c : ℕ) → after_bytes test y start end ≡ n → has_byte_at y n c ≡ true
      → test c ≡ false → n < at → n ≤ end' → end' ≤ length x → after_bytes test x start end' ≡ n
  after_found test start end end' n c is byte fails less below within =
      by_order (cases_lt m n) (cases_lt n m)
      (λ before.
      let found = stopped test x start end' (omega (arith, before, below)) within in
      let passes =
      before_end test y start end m found.0 (omega arith) (omega (arith, before, is))
      (sym (byte_prefix m found.0 (omega (arith, before, less))) ∙ found.1) in
      test_clash (test found.0) passes found.2)
      (λ after.
      let passes = before_end test x start end' n c (omega (arith, is)) after (byte_prefix n c less ∙ byte) in
      test_clash (test c) passes fails)
    where
      m : ℕ
      m = after_bytes test x start end'

      by_order : (m < n) ⊎ (n ≤ m) → (n < m) ⊎ (m ≤ n) → (m < n → ⊥) → (n < m → ⊥) → m ≡ n
      by_order (inl before) other none1 none2 = absurd (none1 before)
      by_order (inr up) (inl after) none1 none2 = absurd (none2 after)
      by_order (inr up) (inr down) none1 none2 = omega (arith, up, down)

  -- if `gap_end` is that of a comma before the byte offset, it is the same in both texts, for each end at or after it
  pub gap_found_there : (start end end' g : ℕ) → gap_end y start end ≡ g → has_byte_at y g 44 ≡ true → g < at → g < end
      → end ≤ length y → g ≤ end' → end' ≤ length x → gap_end x start end' ≡ g
  gap_found_there start end end' g is byte less before within below within' = by_case (has_byte_at y s 37) refl is
    where
      s : ℕ
      s = after_bytes is_ascii_whitespace y start end

      n : ℕ
      n = after_bytes is_no_line_feed y s end

      by_case : (signed : Bool) → has_byte_at y s 37 ≡ signed → cond signed (after_bytes is_ascii_whitespace y n end) s ≡ g
          → gap_end x start end' ≡ g
      by_case false sign ends =
          ap (λ m. after_comment x m end') (after_found is_ascii_whitespace start end end' g 44 ends byte refl less below within')
          ∙ ap (λ b. cond b (after_bytes is_ascii_whitespace x (after_bytes is_no_line_feed x g end') end') g)
          (byte_prefix g 37 less ∙ ap (λ m. has_byte_at y m 37) (sym ends) ∙ sign)
      by_case true sign ends =
          let feed = stopped is_no_line_feed y s end (omega (arith, ends, before)) within in
          ap (λ m. after_comment x m end')
          (after_found is_ascii_whitespace start end end' s 37 refl sign refl (omega (arith, ends, less)) (omega (arith, ends, below))
          within')
          ∙ ap (λ b. cond b (after_bytes is_ascii_whitespace x (after_bytes is_no_line_feed x s end') end') s)
          (byte_prefix s 37 (omega (arith, ends, less)) ∙ sign)
          ∙ ap (λ m. after_bytes is_ascii_whitespace x m end')
          (after_found is_no_line_feed s end end' n feed.0 refl feed.1 feed.2 (omega (arith, ends, less)) (omega (arith, ends, below))
          within')
          ∙ after_found is_ascii_whitespace n end end' g 44 ends byte refl less below within'
