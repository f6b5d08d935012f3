-- Lines that two lists share at their start and at their end, and lines that are joined.
use Rattle.std.proofs.Common.{◌≡◌, ℕ, zero, suc, ◌+◌, ◌<◌, Bool, true, false, cond, List, [], ◌∷◌, ◌++◌, length, take, drop, get_or, refl, sym, ap, ◌∙◌, arith, append_assoc, reverse}
use Rattle.std.specs.Prelude.{bytes_eq, ◌==◌, not, IfOk, Result, Ok, Err, Some}
use Rattle.std.specs.Borrow.{Bor}
use Rattle.std.specs.List.{onto_first}
use Rattle.std.proofs.lemmas.Bool.Decides.{nat_tests}
use Rattle.std.proofs.lemmas.List.{append_cancel_left, append_cancel_right, drop-map, drop_more, length-map, length-take-le, map-append, reverse-append, take-append-drop, take-map, take_more}
use Rattle.std.proofs.lemmas.Slice.Eq.{bytes_eq-Decides}
use Rattle.edit_entry_merge.specs.ConflictTexts.{AreConflictParts, ConflictParts, IsConflictText, IsMarkedText, MarkerLines, begin_with_same, between_markers, end_alike, lines_as_text, lines, marked_lines}
use Rattle.edit_entry_merge.specs.Lines.{lent_lines}

-- ---- lines that two lists share

pub not_true : {b : Bool} → not b ≡ true → b ≡ false
not_true {b = true} is = sym is
not_true {b = false} is = refl

pub not_false : {b : Bool} → not b ≡ false → b ≡ true
not_false {b = true} is = refl
not_false {b = false} is = sym is

module _ (xs ys : List (Bor (List ℕ))) (i j : ℕ) (d e : Bor (List ℕ)) (in_xs : i < length xs) (in_ys : j < length ys) where
  abbrev x : List ℕ
  x = (get_or xs i d).now

  abbrev y : List ℕ
  y = (get_or ys j e).now

  drop_x : drop i (lent_lines xs) ≡ x ∷ drop (i + 1) (lent_lines xs)
  drop_x = drop-map (λ l. l.now) i xs ∙ ap lent_lines (drop_more xs i d in_xs) ∙ ap (λ l. x ∷ l) (sym (drop-map (λ l. l.now) (i + 1) xs))

  drop_y : drop j (lent_lines ys) ≡ y ∷ drop (j + 1) (lent_lines ys)
  drop_y = drop-map (λ l. l.now) j ys ∙ ap lent_lines (drop_more ys j e in_ys) ∙ ap (λ l. y ∷ l) (sym (drop-map (λ l. l.now) (j + 1) ys))

  take_x : take (i + 1) (lent_lines xs) ≡ take i (lent_lines xs) ++ x ∷ []
  take_x =
      take-map (λ l. l.now) (i + 1) xs ∙ ap lent_lines (take_more xs i d in_xs)
      ∙ map-append (λ l. l.now) (take i xs) (get_or xs i d ∷ []) ∙ ap (λ l. l ++ x ∷ []) (sym (take-map (λ l. l.now) i xs))

  take_y : take (j + 1) (lent_lines ys) ≡ take j (lent_lines ys) ++ y ∷ []
  take_y =
      take-map (λ l. l.now) (j + 1) ys ∙ ap lent_lines (take_more ys j e in_ys)
      ∙ map-append (λ l. l.now) (take j ys) (get_or ys j e ∷ []) ∙ ap (λ l. l ++ y ∷ []) (sym (take-map (λ l. l.now) j ys))

  -- the lists differ at these indices
  pub differ_from : bytes_eq (get_or xs i d).now (get_or ys j e).now ≡ false
      → begin_with_same (drop i (lent_lines xs)) (drop j (lent_lines ys)) ≡ false
  differ_from other = ap (λ l. begin_with_same l (drop j (lent_lines ys))) drop_x
      ∙ ap (begin_with_same (x ∷ drop (i + 1) (lent_lines xs))) drop_y ∙ other

  pub differ_up_to : bytes_eq (get_or xs i d).now (get_or ys j e).now ≡ false
      → end_alike (take (i + 1) (lent_lines xs)) (take (j + 1) (lent_lines ys)) ≡ false
  differ_up_to other =
      ap (λ l. end_alike l (take (j + 1) (lent_lines ys))) take_x ∙ ap (end_alike (take i (lent_lines xs) ++ x ∷ [])) take_y
      ∙ ap (λ l. begin_with_same l (reverse (take j (lent_lines ys) ++ y ∷ []))) (reverse-append (take i (lent_lines xs)) (x ∷ []))
      ∙ ap (begin_with_same (x ∷ reverse (take i (lent_lines xs)))) (reverse-append (take j (lent_lines ys)) (y ∷ []))
      ∙ other

  -- the lists are equal before these indices, and at them
  pub same_up_to : bytes_eq (get_or xs i d).now (get_or ys j e).now ≡ true → take i (lent_lines xs) ≡ take j (lent_lines ys)
      → take (i + 1) (lent_lines xs) ≡ take (j + 1) (lent_lines ys)
  same_up_to same before =
      take_x ∙ ap (λ l. l ++ x ∷ []) before ∙ ap (λ t. take j (lent_lines ys) ++ t ∷ []) ((bytes_eq-Decides x y).0 same) ∙ sym take_y

  pub same_from : bytes_eq (get_or xs i d).now (get_or ys j e).now ≡ true → drop (i + 1) (lent_lines xs) ≡ drop (j + 1) (lent_lines ys)
      → drop i (lent_lines xs) ≡ drop j (lent_lines ys)
  same_from same after =
      drop_x ∙ ap (λ l. x ∷ l) after ∙ ap (λ t. t ∷ drop (j + 1) (lent_lines ys)) ((bytes_eq-Decides x y).0 same) ∙ sym drop_y

-- ---- joined lines

pub joined_more : (l : List ℕ) (ls : List (List ℕ)) (m : List ℕ) → lines_as_text ((l ∷ ls) ++ m ∷ []) ≡ lines_as_text (l ∷ ls) ++ 10 ∷ m
joined_more l [] m = refl
joined_more l (k ∷ ls) m =
    ap (λ t. l ++ 10 ∷ t) (joined_more k ls m) ∙ sym (append_assoc l (10 ∷ lines_as_text (k ∷ ls)) (10 ∷ m))

more_texts : (xs : List (Bor (List ℕ))) (i : ℕ) (d : Bor (List ℕ)) → i < length xs
    → lent_lines (take (i + 1) xs) ≡ lent_lines (take i xs) ++ (get_or xs i d).now ∷ []
more_texts xs i d within =
    ap lent_lines (take_more xs i d within) ∙ map-append (λ l. l.now) (take i xs) (get_or xs i d ∷ [])

count_texts : (xs : List (Bor (List ℕ))) (i : ℕ) → i < length xs → length (lent_lines (take i xs)) ≡ i
count_texts xs i within = length-map (take i xs) (λ l. l.now) ∙ length-take-le i xs (omega (arith, within))

-- the first line, and one more line after other ones
pub first_line : (xs : List (Bor (List ℕ))) (i : ℕ) (d : Bor (List ℕ)) → i < length xs → (text mid new : List ℕ)
    → text ≡ lines_as_text (lent_lines (take i xs)) → mid ≡ text → new ≡ mid ++ (get_or xs i d).now → i ≡ 0 → new
    ≡ lines_as_text (lent_lines (take (i + 1) xs))
first_line xs i d within text mid new before same is first =
    is ∙ ap (λ t. t ++ (get_or xs i d).now) (same ∙ before)
    ∙ none (lent_lines (take i xs)) (get_or xs i d).now (count_texts xs i within ∙ first)
    ∙ ap lines_as_text (sym (more_texts xs i d within))
  where
    none : (ls : List (List ℕ)) (m : List ℕ) → length ls ≡ 0 → lines_as_text ls ++ m ≡ lines_as_text (ls ++ m ∷ [])
    none [] m is = refl
    none (l ∷ ls) m is = absurd (omega (arith, is))

pub later_line : (xs : List (Bor (List ℕ))) (i : ℕ) (d : Bor (List ℕ)) → i < length xs → (text mid new : List ℕ)
    → text ≡ lines_as_text (lent_lines (take i xs)) → mid ≡ text ++ 10 ∷ [] → new ≡ mid ++ (get_or xs i d).now → 0 < i
    → new ≡ lines_as_text (lent_lines (take (i + 1) xs))
later_line xs i d within text mid new before same is later =
    is ∙ ap (λ t. t ++ (get_or xs i d).now) (same ∙ ap (λ t. t ++ 10 ∷ []) before)
    ∙ append_assoc (lines_as_text (lent_lines (take i xs))) (10 ∷ []) (get_or xs i d).now
    ∙ some (lent_lines (take i xs)) (get_or xs i d).now (omega (arith, count_texts xs i within, later))
    ∙ ap lines_as_text (sym (more_texts xs i d within))
  where
    some : (ls : List (List ℕ)) (m : List ℕ) → 0 < length ls → lines_as_text ls ++ 10 ∷ m ≡ lines_as_text (ls ++ m ∷ [])
    some [] m is = absurd (omega (arith, is))
    some (l ∷ ls) m is = sym (joined_more l ls m)

-- the lines of a text, joined, are the text
pub lines_joined : (text : List ℕ) → lines_as_text (lines text) ≡ text
lines_joined [] = refl
lines_joined (b ∷ bs) = by_case (b == 10) refl (lines bs) (some_line bs) (lines_joined bs)
  where
    some_line : (bs : List ℕ) → (l : List ℕ) × (ls : List (List ℕ)) × (lines bs ≡ l ∷ ls)
    some_line [] = ([], [], refl)
    some_line (c ∷ cs) = by_rest (c == 10) (lines cs) (some_line cs)
      where
        by_rest : (is : Bool) (rest : List (List ℕ)) → (l : List ℕ) × (ls : List (List ℕ)) × (rest ≡ l ∷ ls)
            → (l : List ℕ) × (ls : List (List ℕ)) × (cond is ([] ∷ rest) (onto_first c rest) ≡ l ∷ ls)
        by_rest true rest some = ([], rest, refl)
        by_rest false rest some = (c ∷ some.0, some.1, ap (onto_first c) some.2)

    by_case : (is : Bool) → (b == 10) ≡ is → (rest : List (List ℕ)) → (l : List ℕ) × (ls : List (List ℕ)) × (rest ≡ l ∷ ls)
        → lines_as_text rest ≡ bs → lines_as_text (cond is ([] ∷ rest) (onto_first b rest)) ≡ b ∷ bs
    by_case true feed rest some whole =
        let same : b ≡ 10 = grind (arith, nat_tests) in
        ap (λ l. lines_as_text ([] ∷ l)) some.2 ∙ ap (λ t. 10 ∷ t) (ap lines_as_text (sym some.2) ∙ whole) ∙ ap (λ c. c ∷ bs) (sym same)
    by_case false other rest some whole =
        ap (λ l. lines_as_text (onto_first b l)) some.2 ∙ first some.0 some.1 ∙ ap (λ t. b ∷ t) (ap lines_as_text (sym some.2) ∙ whole)
      where
        first : (l : List ℕ) (ls : List (List ℕ)) → lines_as_text ((b ∷ l) ∷ ls) ≡ b ∷ lines_as_text (l ∷ ls)
        first l [] = refl
        first l (m ∷ ls) = refl

-- ---- parts

-- the parts of two lists of lines: those up to an index, and the rests, which are cut at one index each
pub parts_are : (ls ms rs qs : List (List ℕ)) (start k j : ℕ) → rs ≡ drop start ls → qs ≡ drop start ms → take start ls ≡ take start ms
    → drop k rs ≡ drop j qs → begin_with_same rs qs ≡ false → end_alike (take k rs) (take j qs) ≡ false
    → AreConflictParts ls ms (record { start = take start ls; ours = take k rs; theirs = take j qs; end = drop k rs })
parts_are ls ms rs qs start k j ls_rest ms_rest same_start same_end longest_start longest_end = record {
  our_lines = cut ls rs k ls_rest;
  their_lines =
      cut ms qs j ms_rest ∙ ap (λ l. l ++ (take j qs ++ drop j qs)) (sym same_start)
      ∙ ap (λ l. take start ls ++ (take j qs ++ l)) (sym same_end);
  start_is_longest = ap (λ l. begin_with_same l (take j qs ++ drop k rs)) (take-append-drop k rs)
      ∙ ap (λ l. begin_with_same rs (take j qs ++ l)) same_end ∙ ap (begin_with_same rs) (take-append-drop j qs) ∙ longest_start;
  end_is_longest = longest_end;
}
  where
    cut : (xs ys : List (List ℕ)) (m : ℕ) → ys ≡ drop start xs → xs ≡ take start xs ++ (take m ys ++ drop m ys)
    cut xs ys m rest =
        sym (take-append-drop start xs) ∙ ap (λ l. take start xs ++ l) (sym rest)
        ∙ ap (λ l. take start xs ++ l) (sym (take-append-drop m ys))

-- a joined list of marked lines is a marked text
pub marked : {S E : Type 0} (bytes : S → List ℕ) (r : Result S E) (m : MarkerLines) (ours theirs all : List (List ℕ)) (p : ConflictParts)
    → IfOk r (λ text. bytes text ≡ lines_as_text all) → all ≡ marked_lines m p → AreConflictParts ours theirs p
    → IfOk r (λ text. IsMarkedText m ours theirs (bytes text))
marked bytes (Ok text) m ours theirs all p is lines are = record { parts = p; are = are; is = is ∙ ap lines_as_text lines }
marked bytes (Err e) m ours theirs all p is lines are = tt

-- the differing lines of equal lists are none
pub none_differ : (ls : List (List ℕ)) (p : ConflictParts) → AreConflictParts ls ls p → (p.ours ≡ []) × (p.theirs ≡ [])
none_differ ls p are =
    let rests = append_cancel_left p.start (p.ours ++ p.end) (p.theirs ++ p.end) (sym are.our_lines ∙ are.their_lines) in
    let same : p.ours ≡ p.theirs = append_cancel_right p.ours p.theirs p.end rests in
    let none : p.theirs ≡ [] =
    front_empty p.theirs
    (empty (p.theirs ++ p.end) (ap (λ l. begin_with_same l (p.theirs ++ p.end)) (sym rests) ∙ are.start_is_longest)) in
    (same ∙ none, none)
  where
    empty : (ms : List (List ℕ)) → begin_with_same ms ms ≡ false → ms ≡ []
    empty [] other = refl
    empty (m ∷ ms) other = absurd (let clash : true ≡ false = sym ((bytes_eq-Decides m m).1 refl) ∙ other in cc)

    front_empty : (ls : List (List ℕ)) → ls ++ p.end ≡ [] → ls ≡ []
    front_empty [] is = refl
    front_empty (l ∷ ls) is = absurd (cc)

pub equal_marked : (m : MarkerLines) (text new : List ℕ) → IsConflictText m (Some text) (Some text) new → new ≡ text
equal_marked m text new marked =
    let p = marked.parts in
    let none = none_differ (lines text) p marked.are in
    marked.is
    ∙ ap (λ l. lines_as_text (p.start ++ (between_markers m l p.theirs ++ p.end))) none.0
    ∙ ap (λ l. lines_as_text (p.start ++ (between_markers m [] l ++ p.end))) none.1
    ∙ sym (ap (λ l. lines_as_text (p.start ++ (l ++ p.end))) none.0)
    ∙ ap lines_as_text (sym marked.are.our_lines) ∙ lines_joined text
