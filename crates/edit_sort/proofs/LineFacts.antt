-- The text after the last blank line, line by line.
use Rattle.std.proofs.Common.{◌≡◌, ◌⊎◌, inl, inr, ℕ, zero, suc, ◌+◌, ◌<◌, ◌≤◌, ◌-◌, Bool, true, false, cond, List, [], ◌∷◌, ◌++◌, drop, get_or, length, reverse, take, refl, sym, ap, ◌∙◌, subst, arith, append_assoc, length-append}
use Rattle.std.specs.Prelude.{◌&&◌, not}
use Rattle.std.specs.Char.{is_ascii_whitespace}
use Rattle.std.specs.List.{after_first, before_first, list_all, position_or_len}
use Rattle.std.proofs.lemmas.Bool.{and_parts, eqb-true, false≢true, not-true}
use Rattle.std.proofs.lemmas.List.{append-nil, drop_at, get_or-append-add, get_or-take, get_or_append_left, reverse-append, reverse-reverse, take-append-drop, take_at, take_more}
use Rattle.std.proofs.lemmas.List.Folds.{length-prefix_len, list_all-append}
use Rattle.std.proofs.lemmas.List.Sums.{fails_before_first, passes_at_first, split_at_first}
use Rattle.edit_sort.specs.Sorted.{after_blank_line, is_blank_backwards, ends_blank_line, greatest, is_feed}
use Rattle.edit_sort.specs.Steps.{kept_after}
use Rattle.edit_sort.proofs.GreatestFacts.{greatest_passes, greatest_skip}

-- a text contains no line feed
abbrev pub HasNoFeed : List ℕ → Type 0
HasNoFeed line = (k : ℕ) → k < length line → is_feed (get_or line k 0) ≡ false

-- ---- a text from its end to its start

before_clear : (line rest : List ℕ) → HasNoFeed line → before_first is_feed rest ≡ [] → before_first is_feed (line ++ rest) ≡ line
before_clear [] rest clear none = none
before_clear (b ∷ line) rest clear none =
    by_feed (is_feed b) (clear 0 (omega arith)) (before_clear line rest (λ k within. clear (suc k) (omega arith)) none)
  where
    by_feed : (x : Bool) → x ≡ false → take (position_or_len is_feed (line ++ rest)) (line ++ rest) ≡ line
        → take (cond (not x) (1 + position_or_len is_feed (line ++ rest)) 0) (b ∷ (line ++ rest)) ≡ b ∷ line
    by_feed true is later = absurd (false≢true (sym is))
    by_feed false is later =
        let next : 1 + position_or_len is_feed (line ++ rest) ≡ suc (position_or_len is_feed (line ++ rest)) = omega arith in
        ap (λ n. take n (b ∷ (line ++ rest))) next ∙ ap (λ l. b ∷ l) later

all_reversed : (p : ℕ → Bool) (xs : List ℕ) → list_all p (reverse xs) ≡ list_all p xs
all_reversed p [] = refl
all_reversed p (x ∷ xs) =
    ap (list_all p) (reverse-append (x ∷ []) xs) ∙ list_all-append p (reverse xs) (x ∷ [])
    ∙ ap (λ b. b && (p x && true)) (all_reversed p xs) ∙ turned (list_all p xs) (p x)
  where
    turned : (a b : Bool) → (a && (b && true)) ≡ (b && a)
    turned true true = refl
    turned true false = refl
    turned false true = refl
    turned false false = refl

clear_reversed : (line : List ℕ) → HasNoFeed line → list_all (λ b. not (is_feed b)) line ≡ true
clear_reversed [] clear = refl
clear_reversed (b ∷ line) clear =
    ap (λ x. not x && list_all (λ c. not (is_feed c)) line) (clear 0 (omega arith))
    ∙ clear_reversed line (λ k within. clear (suc k) (omega arith))

clear_from : (line : List ℕ) → list_all (λ b. not (is_feed b)) line ≡ true → HasNoFeed line
clear_from [] all k within = absurd (omega arith)
clear_from (b ∷ line) all k within =
    let parts = and_parts (not (is_feed b)) (list_all (λ c. not (is_feed c)) line) all in
    by_place k within parts.0 (clear_from line parts.1)
  where
    by_place : (j : ℕ) → j < length (b ∷ line) → not (is_feed b) ≡ true → HasNoFeed line → is_feed (get_or (b ∷ line) j 0) ≡ false
    by_place zero within' is later = not-true (is_feed b) is
    by_place (suc j) within' is later = later j (omega arith)

reversed_clear : (line : List ℕ) → HasNoFeed line → HasNoFeed (reverse line)
reversed_clear line clear =
    clear_from (reverse line) (all_reversed (λ b. not (is_feed b)) line ∙ clear_reversed line clear)

-- the text after whole lines and one more line ends in a blank line exactly if that line is blank
ends_line : (seen line : List ℕ) → HasNoFeed line → before_first is_feed (reverse seen) ≡ []
    → is_blank_backwards (reverse (seen ++ (line ++ 10 ∷ []))) ≡ list_all is_ascii_whitespace line
ends_line seen line clear whole =
    ap is_blank_backwards (reversed_line seen line)
    ∙ ap (list_all is_ascii_whitespace) (before_clear (reverse line) (reverse seen) (reversed_clear line clear) whole)
    ∙ all_reversed is_ascii_whitespace line
  where
    reversed_line : (xs ys : List ℕ) → reverse (xs ++ (ys ++ 10 ∷ [])) ≡ 10 ∷ (reverse ys ++ reverse xs)
    reversed_line xs ys = reverse-append xs (ys ++ 10 ∷ []) ∙ ap (λ l. l ++ reverse xs) (reverse-append ys (10 ∷ []))

-- a text that ends inside a line ends in no blank line
ends_inside : (seen line rest : List ℕ) (i : ℕ) → i < length line → HasNoFeed line
    → ends_blank_line (seen ++ (line ++ rest)) (length seen + i + 1) ≡ false
ends_inside seen line rest i within clear =
    let text = seen ++ (line ++ rest) in
    let k = length seen + i in
    let long : k < length text = omega (arith, length-append seen (line ++ rest), length-append line rest) in
    let byte : get_or text k 0 ≡ get_or line i 0 =
    get_or-append-add seen (line ++ rest) i 0 ∙ get_or_append_left line rest 0 i within in
    ap (λ l. is_blank_backwards (reverse l)) (take_more text k 0 long)
    ∙ ap is_blank_backwards (reverse-append (take k text) (get_or text k 0 ∷ []))
    ∙ ap (λ x. x && list_all is_ascii_whitespace (before_first is_feed (reverse (take k text)))) (ap is_feed byte ∙ clear i within)

-- a text without line feeds adds no blank line
pub skipped : (seen line rest : List ℕ) (k : ℕ) → k ≤ length line → HasNoFeed line
    → greatest (ends_blank_line (seen ++ (line ++ rest))) (length seen + k)
    ≡ greatest (ends_blank_line (seen ++ (line ++ rest))) (length seen)
skipped seen line rest k within clear =
    greatest_skip (ends_blank_line (seen ++ (line ++ rest))) (length seen) k
    (λ j above below.
    let at : length seen + (j - length seen - 1) + 1 ≡ j = omega arith in
    ap (ends_blank_line (seen ++ (line ++ rest))) (sym at) ∙ ends_inside seen line rest (j - length seen - 1) (omega arith) clear)

-- ---- the lines that a loop has seen

-- a loop has seen whole lines of a text, and `kept` is the text after the last blank one of them
pub record IsSeen (text kept rest : List ℕ) : Type 0 where
  pub seen : List ℕ
  pub is_cut : text ≡ seen ++ rest
  pub whole : before_first is_feed (reverse seen) ≡ []
  pub is_kept : kept ≡ drop (greatest (ends_blank_line text) (length seen)) text

pub seen_none : (text : List ℕ) → IsSeen text text text
seen_none text = record { seen = []; is_cut = refl; whole = refl; is_kept = refl }

-- the text before the first line feed contains no line feed
line_clear : (text : List ℕ) → HasNoFeed (before_first is_feed text)
line_clear text k within =
    let short : k < position_or_len is_feed text = omega (arith, length-prefix_len (λ b. not (is_feed b)) text) in
    ap is_feed (get_or-take (position_or_len is_feed text) text k 0 short) ∙ fails_before_first is_feed text k 0 short

-- one more line is seen
pub seen_more : (text kept rest line after new : List ℕ) → position_or_len is_feed rest < length rest
    → line ≡ before_first is_feed rest → after ≡ after_first is_feed rest
    → new ≡ kept_after (list_all is_ascii_whitespace line) after kept → IsSeen text kept rest → IsSeen text new after
seen_more text kept rest line after new within line_is after_is new_is s =
    let feed : get_or rest (position_or_len is_feed rest) 0 ≡ 10 =
    eqb-true (get_or rest (position_or_len is_feed rest) 0) 10 (passes_at_first is_feed rest 0 within) in
    let clear : HasNoFeed line = subst HasNoFeed (sym line_is) (line_clear rest) in
    let split : rest ≡ line ++ 10 ∷ after =
    split_at_first is_feed rest 0 within
    ∙ ap (λ b. before_first is_feed rest ++ b ∷ after_first is_feed rest) feed
    ∙ ap (λ l. l ++ 10 ∷ after_first is_feed rest) (sym line_is) ∙ ap (λ l. line ++ 10 ∷ l) (sym after_is) in
    let by_parts : text ≡ s.seen ++ (line ++ 10 ∷ after) = s.is_cut ∙ ap (λ l. s.seen ++ l) split in
    let next = s.seen ++ (line ++ 10 ∷ []) in
    let is_cut : text ≡ next ++ after =
    by_parts ∙ ap (λ l. s.seen ++ l) (sym (append_assoc line (10 ∷ []) after)) ∙ sym (append_assoc s.seen (line ++ 10 ∷ []) after) in
    let m = length s.seen + length line in
    let long : length next ≡ suc m = omega (arith, length-append s.seen (line ++ 10 ∷ []), length-append line (10 ∷ [])) in
    let ends : ends_blank_line text (suc m) ≡ list_all is_ascii_whitespace line =
    ap (λ l. is_blank_backwards (reverse l)) (ap (take (suc m)) is_cut ∙ take_at next after (suc m) long)
    ∙ ends_line s.seen line clear s.whole in
    let skip : greatest (ends_blank_line text) m ≡ greatest (ends_blank_line text) (length s.seen) =
    subst (λ t. greatest (ends_blank_line t) m ≡ greatest (ends_blank_line t) (length s.seen)) (sym by_parts)
    (skipped s.seen line (10 ∷ after) (length line) (omega arith) clear) in
    let rest_is : drop (suc m) text ≡ after = ap (drop (suc m)) is_cut ∙ drop_at next after (suc m) long in
    record {
      seen = next;
      is_cut = is_cut;
      whole = last_feed s.seen line;
      is_kept = new_is
          ∙ by_blank (list_all is_ascii_whitespace line) after kept (suc m) (greatest (ends_blank_line text) (length s.seen))
          text rest_is s.is_kept
          ∙ ap (λ n. drop (cond (list_all is_ascii_whitespace line) (suc m) n) text) (sym skip)
          ∙ ap (λ b. drop (cond b (suc m) (greatest (ends_blank_line text) m)) text) (sym ends)
          ∙ ap (λ n. drop (greatest (ends_blank_line text) n) text) (sym long);
    }
  where
    by_blank : (b : Bool) (after' kept' : List ℕ) (n g : ℕ) (whole : List ℕ) → drop n whole ≡ after' → kept' ≡ drop g whole
        → kept_after b after' kept' ≡ drop (cond b n g) whole
    by_blank true after' kept' n g whole is is' = sym is
    by_blank false after' kept' n g whole is is' = is'

    last_feed : (xs ys : List ℕ) → before_first is_feed (reverse (xs ++ (ys ++ 10 ∷ []))) ≡ []
    last_feed xs ys =
        ap (before_first is_feed)
        (reverse-append xs (ys ++ 10 ∷ []) ∙ ap (λ l. l ++ reverse xs) (reverse-append ys (10 ∷ [])))

-- after all lines are seen, `kept` is the text after the last blank line
pub seen_all : (text kept rest : List ℕ) → position_or_len is_feed rest ≡ length rest → IsSeen text kept rest
    → kept ≡ after_blank_line text
seen_all text kept rest all s =
    let clear : HasNoFeed rest = λ k within. fails_before_first is_feed rest k 0 (omega (arith, all)) in
    let by_parts : text ≡ s.seen ++ (rest ++ []) = s.is_cut ∙ ap (λ l. s.seen ++ l) (sym (append-nil rest)) in
    let long : length text ≡ length s.seen + length rest = ap length s.is_cut ∙ length-append s.seen rest in
    let skip : greatest (ends_blank_line text) (length s.seen + length rest) ≡ greatest (ends_blank_line text) (length s.seen) =
    subst
    (λ t. greatest (ends_blank_line t) (length s.seen + length rest) ≡ greatest (ends_blank_line t) (length s.seen)) (sym by_parts)
    (skipped s.seen rest [] (length rest) (omega arith) clear) in
    s.is_kept ∙ ap (λ n. drop n text) (sym skip) ∙ ap (λ n. drop (greatest (ends_blank_line text) n) text) (sym long)

-- ---- the start of the text after the last blank line

-- a text is all of another, or the part of it after a line feed
abbrev pub AfterFeed : List ℕ → List ℕ → Type 0
AfterFeed text rest = (rest ≡ text) ⊎ ((front : List ℕ) × (text ≡ front ++ 10 ∷ rest))

ends_feed : (xs : List ℕ) → is_blank_backwards (reverse xs) ≡ true → (front : List ℕ) × (xs ≡ front ++ 10 ∷ [])
ends_feed xs ends = by_reverse (reverse xs) refl ends
  where
    by_reverse : (r : List ℕ) → reverse xs ≡ r → is_blank_backwards r ≡ true → (front : List ℕ) × (xs ≡ front ++ 10 ∷ [])
    by_reverse [] is ends' = absurd (false≢true ends')
    by_reverse (b ∷ bs) is ends' =
        let feed : b ≡ 10 =
        eqb-true b 10 (and_parts (is_feed b) (list_all is_ascii_whitespace (before_first is_feed bs)) ends').0 in (
          reverse bs,
          sym (reverse-reverse xs) ∙ ap reverse is ∙ reverse-append (b ∷ []) bs ∙ ap (λ x. reverse bs ++ x ∷ []) feed,
        )

pub feed_before : (text : List ℕ) → AfterFeed text (after_blank_line text)
feed_before text = by_place (greatest_passes (ends_blank_line text) (length text))
  where
    n : ℕ
    n = greatest (ends_blank_line text) (length text)

    by_place : (n ≡ 0) ⊎ (ends_blank_line text n ≡ true) → AfterFeed text (drop n text)
    by_place (inl zero_is) = inl (ap (λ k. drop k text) zero_is)
    by_place (inr passes) =
        let found = ends_feed (take n text) passes in
        inr (
          found.0,
          sym (take-append-drop n text) ∙ ap (λ l. l ++ drop n text) found.1 ∙ append_assoc found.0 (10 ∷ []) (drop n text),
        )
