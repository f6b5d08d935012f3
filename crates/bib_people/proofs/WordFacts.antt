-- Facts about the words of a name.
use Rattle.std.proofs.Common.{◌≡◌, ℕ, ◌+◌, ◌<◌, Bool, true, false, List, [], ◌∷◌, ◌++◌, length, map, take, drop, get_or, refl, sym, ap, ◌∙◌, cond, suc, arith, append_assoc, ⊎_elim, length-drop, length-append, ◌-◌}
use Rattle.std.proofs.lemmas.List.{append-nil, take-append-drop, drop_more, map-append, nil_from_length}
use Rattle.std.specs.Prelude.{not, ◌==◌, encode_utf8_all}
use Rattle.std.proofs.lemmas.Str.{length-le-encodes, encodes-append}
use Rattle.std.specs.List.{prefix_len, list_all}
use Rattle.std.proofs.lemmas.Bool.{cases_Bool, and_parts, and_from, ne_eqb, not-true, not-false, both_ways}
use Rattle.bib_people.specs.Letters.{Letter, is_gap, gap_len, word_len, Word, a_word, words_with_letter, words_of, word_letters}

-- a character of a name
abbrev pub letter : Bool → ℕ → Letter
letter is_verbatim c = record { char = c; is_verbatim = is_verbatim }

-- ---- the run at the start of a list

-- the run at the start of a list is one longer if the first element passes the test
one_passes : {A : Type 0} (p : A → Bool) (x : A) (xs : List A) → p x ≡ true → prefix_len p (x ∷ xs) ≡ suc (prefix_len p xs)
one_passes p x xs passes = rw passes (omega arith)

-- the run at the start of a list is empty if the first element fails the test
none_passes : {A : Type 0} (p : A → Bool) (x : A) (xs : List A) → p x ≡ false → prefix_len p (x ∷ xs) ≡ 0
none_passes p x xs fails = rw fails refl

-- the run at the start of a list passes the test
pub prefix_passes : {A : Type 0} (p : A → Bool) (xs : List A) → list_all p (take (prefix_len p xs) xs) ≡ true
prefix_passes p [] = refl
prefix_passes p (x ∷ xs) =
    ⊎_elim (λ yes. ap (λ n. list_all p (take n (x ∷ xs))) (one_passes p x xs yes) ∙ and_from (p x) _ yes (prefix_passes p xs))
    (λ no. ap (λ n. list_all p (take n (x ∷ xs))) (none_passes p x xs no))
    (cases_Bool (p x))

-- the first element after the run fails the test
pub after_fails : {A : Type 0} (p : A → Bool) (xs : List A) (b : A) (bs : List A) → drop (prefix_len p xs) xs ≡ b ∷ bs → p b ≡ false
after_fails p [] b bs is = cc
after_fails p (x ∷ xs) b bs is =
    ⊎_elim (λ yes. after_fails p xs b bs (sym (ap (λ n. drop n (x ∷ xs)) (one_passes p x xs yes)) ∙ is))
    (λ no.
    let same : x ∷ xs ≡ b ∷ bs = sym (ap (λ n. drop n (x ∷ xs)) (none_passes p x xs no)) ∙ is in
    let first : x ≡ b = cc in ap p (sym first) ∙ no)
    (cases_Bool (p x))

-- ---- words

-- whether there are no words, or a gap is before the first one
abbrev pub stand_apart : List Word → Bool
stand_apart [] = true
stand_apart (word ∷ words) = not (length word.gap == 0)

-- a gap before the first word belongs to this word
pub words_gap : (gap rest inside : List Letter) (words : List Word) → list_all is_gap gap ≡ true
    → words_of rest ≡ a_word [] inside ∷ words → words_of (gap ++ rest) ≡ a_word gap inside ∷ words
words_gap [] rest inside words all is = is
words_gap (l ∷ gap) rest inside words all is =
    let both = and_parts (is_gap l) (list_all is_gap gap) all in
    let here = both.0 in
    let more = words_gap gap rest inside words both.1 is in
    rw (more, here) refl

-- a gap contains no words
pub words_none : (gap : List Letter) → list_all is_gap gap ≡ true → words_of gap ≡ []
words_none [] all = refl
words_none (l ∷ gap) all =
    let both = and_parts (is_gap l) (list_all is_gap gap) all in
    let here = both.0 in
    let more = words_none gap both.1 in
    rw (more, here) refl

one_letter : (l : Letter) (words : List Word) → is_gap l ≡ false → stand_apart words ≡ true
    → words_with_letter l words ≡ a_word [] (l ∷ []) ∷ words
one_letter l [] no_gap apart = rw no_gap refl
one_letter l (word ∷ words) no_gap apart = let apart_here = not-true (length word.gap == 0) apart in rw (no_gap, apart_here) refl

-- the letters of a word, before words that stand apart from it, are that word
pub words_word : (l : Letter) (inside after : List Letter) → is_gap l ≡ false
    → list_all (λ x. not (is_gap x)) inside ≡ true → stand_apart (words_of after) ≡ true
    → words_of (l ∷ (inside ++ after)) ≡ a_word [] (l ∷ inside) ∷ words_of after
words_word l [] after no_gap all apart = one_letter l (words_of after) no_gap apart
words_word l (m ∷ inside) after no_gap all apart =
    let both = and_parts (not (is_gap m)) (list_all (λ x. not (is_gap x)) inside) all in
    let more = words_word m inside after (not-true (is_gap m) both.0) both.1 apart in
    rw (more, no_gap) refl

-- `stand_apart` holds for an empty list of words
pub apart_end : stand_apart (words_of []) ≡ true
apart_end = refl

apart_words : (l : Letter) (words : List Word) → is_gap l ≡ true → stand_apart (words_with_letter l words) ≡ true
apart_words l [] gap = rw gap refl
apart_words l (word ∷ words) gap =
    let far : (suc (length word.gap) == 0) ≡ false = ne_eqb (suc (length word.gap)) 0 (λ same. omega arith) in
    rw gap (ap not far)

-- words after a gap stand apart
pub apart_gap : (l : Letter) (rest : List Letter) → is_gap l ≡ true → stand_apart (words_of (l ∷ rest)) ≡ true
apart_gap l rest gap = apart_words l (words_of rest) gap

-- the words after the first one stand apart from it
apart_after : (following after : List Letter) → after ≡ drop (word_len following) following → stand_apart (words_of after) ≡ true
apart_after following [] is = apart_end
apart_after following (l ∷ rest) is = apart_gap l rest (not-false (is_gap l) (after_fails (λ x. not (is_gap x)) following l rest (sym is)))

-- the first word, as the program finds it
next : (rest before following inside after : List Letter) → list_all is_gap before ≡ true → rest ≡ before ++ following
    → ((b : Letter) (bs : List Letter) → following ≡ b ∷ bs → is_gap b ≡ false) → 0 < length following
    → inside ≡ take (word_len following) following → after ≡ drop (word_len following) following
    → (words_of rest ≡ a_word before inside ∷ words_of after) × (length after < length rest)
next rest before [] inside after gap whole first some in_word out = absurd (omega arith)
next rest before (b ∷ bs) inside after gap whole first some in_word out =
    let here = first b bs refl in
    let no_gap : not (is_gap b) ≡ true = rw here refl in
    let len : word_len (b ∷ bs) ≡ suc (word_len bs) = rw no_gap (omega arith) in
    let inside_is : inside ≡ b ∷ take (word_len bs) bs = in_word ∙ ap (λ n. take n (b ∷ bs)) len in
    let after_is : after ≡ drop (word_len bs) bs = out ∙ ap (λ n. drop n (b ∷ bs)) len in
    let whole_after : b ∷ (take (word_len bs) bs ++ after) ≡ b ∷ bs =
    ap (λ l. b ∷ l) (ap (λ a. take (word_len bs) bs ++ a) after_is ∙ take-append-drop (word_len bs) bs) in
    let word = words_word b (take (word_len bs) bs) after here (prefix_passes (λ x. not (is_gap x)) bs) (apart_after bs after after_is) in
    let after_words : words_of (b ∷ bs) ≡ a_word [] inside ∷ words_of after =
    ap words_of (sym whole_after) ∙ word ∙ ap (λ i. a_word [] i ∷ words_of after) (sym inside_is) in
    let size : length after ≡ length bs - word_len bs = ap length after_is ∙ length-drop (word_len bs) bs in
    let sizes : length rest ≡ length before + length (b ∷ bs) = ap length whole ∙ length-append before (b ∷ bs) in
    (ap words_of whole ∙ words_gap before (b ∷ bs) inside (words_of after) gap after_words, omega arith)

-- the first word is found with the gap before it, and fewer letters are left after it
pub next_word : (rest before following inside after : List Letter) → before ≡ take (gap_len rest) rest
    → following ≡ drop (gap_len rest) rest → 0 < length following → inside ≡ take (word_len following) following
    → after ≡ drop (word_len following) following
    → (words_of rest ≡ a_word before inside ∷ words_of after) × (length after < length rest)
next_word rest before following inside after is_before is_after some in_word out =
    next rest before following inside after (rw is_before (prefix_passes is_gap rest))
    (rw (is_before, is_after) (sym (take-append-drop (gap_len rest) rest)))
    (λ b bs is. after_fails is_gap rest b bs (sym is_after ∙ is)) some in_word out

-- a list that isn't empty has elements
pub some_left : {A : Type 0} (xs : List A) (is_empty : Bool) → is_empty ≡ (length xs == 0) → is_empty ≡ false → 0 < length xs
some_left [] is_empty is not_empty = absurd (both_ways is_empty not_empty is)
some_left (x ∷ xs) is_empty is not_empty = omega arith

-- no word is left if only a gap is
pub last_word : (rest following : List Letter) → following ≡ drop (gap_len rest) rest → length following ≡ 0 → words_of rest ≡ []
last_word rest following is none =
    let gap = prefix_passes is_gap rest in
    let nothing : drop (gap_len rest) rest ≡ [] = sym is ∙ nil_from_length following none in
    let whole : rest ≡ take (gap_len rest) rest =
    sym (take-append-drop (gap_len rest) rest) ∙ ap (λ l. take (gap_len rest) rest ++ l) nothing ∙ append-nil _ in
    words_none rest (rw (← whole) at gap)

-- a step of the loop: one more word was added
pub word_pushed : (all new : List Word) (word : Word) (words rest total : List Word) → new ≡ all ++ word ∷ []
    → rest ≡ word ∷ words → all ++ rest ≡ total → new ++ words ≡ total
word_pushed all new word words rest total pushed here is =
    ap (λ l. l ++ words) pushed ∙ append_assoc all (word ∷ []) words ∙ ap (λ l. all ++ l) (sym here) ∙ is

-- ---- texts

-- the text of letters, in bytes
abbrev pub spelt : List Letter → List ℕ
spelt letters = encode_utf8_all (map (λ l. l.char) letters)

spelt_append : (xs ys : List Letter) → spelt (xs ++ ys) ≡ spelt xs ++ spelt ys
spelt_append xs ys = ap encode_utf8_all (map-append (λ l. l.char) xs ys) ∙ encodes-append (map (λ l. l.char) xs) (map (λ l. l.char) ys)

-- the gap before a word is written, except before the first one
pub gap_written : (was middle : List ℕ) (first : Bool) (gap : List Letter) → first ≡ false → middle ≡ was ++ spelt gap
    → middle ≡ was ++ spelt (cond first [] gap)
gap_written was middle first gap following is = rw following is

-- the gap before the first word is not written
pub gap_passed : (was middle : List ℕ) (first : Bool) (gap : List Letter) → first ≡ true → middle ≡ was
    → middle ≡ was ++ spelt (cond first [] gap)
gap_passed was middle first gap leading_run is = rw leading_run (is ∙ sym (append-nil was))

-- a step of the loop: one more word was written
pub word_written : (was middle now total : List ℕ) (first : Bool) (words : List Word) (i : ℕ) (word : Word)
    (gap inside : List Letter) → i < length words → word ≡ get_or words i word → word ≡ a_word gap inside
    → middle ≡ was ++ spelt (cond first [] gap) → now ≡ middle ++ spelt inside
    → was ++ spelt (word_letters first (drop i words)) ≡ total → now ++ spelt (word_letters false (drop (i + 1) words)) ≡ total
word_written was middle now total first words i word gap inside within here is before following so_far =
    let rest = word_letters false (drop (i + 1) words) in
    let next : drop i words ≡ a_word gap inside ∷ drop (i + 1) words =
    drop_more words i word within ∙ ap (λ w. w ∷ drop (i + 1) words) (sym here ∙ is) in
    let all : spelt (word_letters first (drop i words)) ≡ spelt (cond first [] gap) ++ (spelt inside ++ spelt rest) =
    ap (λ l. spelt (word_letters first l)) next ∙ spelt_append (cond first [] gap) (inside ++ rest)
    ∙ ap (λ l. spelt (cond first [] gap) ++ l) (spelt_append inside rest) in
    ap (λ l. l ++ spelt rest) (following ∙ ap (λ l. l ++ spelt inside) before)
    ∙ append_assoc (was ++ spelt (cond first [] gap)) (spelt inside) (spelt rest)
    ∙ append_assoc was (spelt (cond first [] gap)) (spelt inside ++ spelt rest)
    ∙ ap (λ l. was ++ l) (sym all) ∙ so_far

-- a text has bytes exactly if it has characters
pub is_nothing : (cs : List ℕ) → (length (encode_utf8_all cs) == 0) ≡ (length cs == 0)
is_nothing [] = refl
is_nothing (c ∷ cs) =
    let some = length-le-encodes (c ∷ cs) in
    ne_eqb (length (encode_utf8_all (c ∷ cs))) 0 (λ none. omega arith) ∙ sym (ne_eqb (suc (length cs)) 0 (λ none. omega arith))
