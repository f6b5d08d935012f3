-- Facts about words separated by single spaces.
use Rattle.std.proofs.Common.{◌≡◌, ℕ, Bool, true, false, List, [], ◌∷◌, ◌++◌, map, take, refl, sym, ap, ◌∙◌, cond, append_assoc}
use Rattle.std.specs.Prelude.{not, ◌&&◌, ◌==◌}
use Rattle.std.specs.List.{list_all}
use Rattle.std.specs.Char.{is_whitespace}
use Rattle.std.proofs.lemmas.Bool.{and_parts, and_from, not-true, false≢true, cond-false}
use Rattle.std.proofs.lemmas.List.{map-append}
use Rattle.std.proofs.lemmas.List.Folds.{list_all-append}
use Rattle.bib_chunks.specs.Formatted.{ends_in_space}
use Rattle.bib_chunks.proofs.FormattedFacts.{ends-append}
use Rattle.bib_chunks.specs.Cuts.{between_ands, prepend, begins_with_space, is_and}
use Rattle.bib_people.specs.declared.person.words.Letter.{Letter}
use Rattle.bib_people.specs.Letters.{is_gap, Word, a_word, words_of, word_letters}
use Rattle.bib_people.specs.Kept.{name_begins, is_word_and, after_words, spaced}
use Rattle.bib_people.proofs.WordFacts.{letter, words_gap, words_word, apart_end, apart_gap, stand_apart}
use Rattle.std.proofs.Math.Bool.{and-false}
use Rattle.bib_chunks.proofs.AndFacts.{between_other, word_here, never}

-- a non-empty word without white space
abbrev pub is_solid : List ℕ → Bool
is_solid word = name_begins (λ b. true) word && list_all (λ b. not (is_whitespace b)) word

-- such a word that isn't `and`
abbrev pub is_item : List ℕ → Bool
is_item word = is_solid word && not (is_word_and word)

-- ---- the ends

solid_ends : (empty : Bool) (b : ℕ) (bs : List ℕ) → list_all (λ x. not (is_whitespace x)) (b ∷ bs) ≡ true
    → ends_in_space empty (b ∷ bs) ≡ false
solid_ends empty b [] all = not-true (is_whitespace b) (and_parts (not (is_whitespace b)) true all).0
solid_ends empty b (c ∷ bs) all = solid_ends (is_whitespace b) c bs (and_parts (not (is_whitespace b)) _ all).1

word_ends : (empty : Bool) (word : List ℕ) → is_solid word ≡ true → ends_in_space empty word ≡ false
word_ends empty [] solid = absurd (false≢true solid)
word_ends empty (b ∷ bs) solid = solid_ends empty b bs solid

after_ends : (words : List (List ℕ)) → list_all is_solid words ≡ true → ends_in_space false (after_words words) ≡ false
after_ends [] all = refl
after_ends (word ∷ words) all =
    let both = and_parts (is_solid word) (list_all is_solid words) all in
    ends-append true word (after_words words)
    ∙ ap (λ e. ends_in_space e (after_words words)) (word_ends true word both.0) ∙ after_ends words both.1

-- a line of solid words (`is_solid`) doesn't end in white space
pub spaced_ends : (words : List (List ℕ)) → list_all is_solid words ≡ true → ends_in_space false (spaced words) ≡ false
spaced_ends [] all = refl
spaced_ends (word ∷ words) all =
    let both = and_parts (is_solid word) (list_all is_solid words) all in
    ends-append false word (after_words words)
    ∙ ap (λ e. ends_in_space e (after_words words)) (word_ends false word both.0) ∙ after_ends words both.1

-- a line of solid words doesn't begin with white space
pub spaced_begins : (words : List (List ℕ)) → list_all is_solid words ≡ true
    → list_all (λ b. not (is_whitespace b)) (take 1 (spaced words)) ≡ true
spaced_begins [] all = refl
spaced_begins ([] ∷ words) all = absurd (false≢true all)
spaced_begins ((b ∷ bs) ∷ words) all =
    let both = and_parts (is_solid (b ∷ bs)) (list_all is_solid words) all in
    and_from (not (is_whitespace b)) true (and_parts (not (is_whitespace b)) _ both.0).0 refl

-- ---- two lists of words

-- the texts of two lists of words, with a space before each word, are that of their concatenation
pub after_append : (xs ys : List (List ℕ)) → after_words (xs ++ ys) ≡ after_words xs ++ after_words ys
after_append [] ys = refl
after_append (x ∷ xs) ys =
    ap (λ l. 32 ∷ (x ++ l)) (after_append xs ys)
    ∙ ap (λ l. 32 ∷ l) (sym (append_assoc x (after_words xs) (after_words ys)))

-- the line of two non-empty lists of words has a space between theirs
pub spaced_append : (x : List ℕ) (xs : List (List ℕ)) (y : List ℕ) (ys : List (List ℕ))
    → spaced ((x ∷ xs) ++ (y ∷ ys)) ≡ spaced (x ∷ xs) ++ (32 ∷ spaced (y ∷ ys))
spaced_append x xs y ys = ap (λ l. x ++ l) (after_append xs (y ∷ ys)) ∙ sym (append_assoc x (after_words xs) (after_words (y ∷ ys)))

-- a test that passes for each word and for a space passes for the text
after_all : (test : ℕ → Bool) → test 32 ≡ true → (words : List (List ℕ)) → list_all (λ w. list_all test w) words ≡ true
    → list_all test (after_words words) ≡ true
after_all test space [] all = refl
after_all test space (word ∷ words) all =
    let both = and_parts (list_all test word) (list_all (λ w. list_all test w) words) all in
    and_from (test 32) (list_all test (word ++ after_words words)) space
    (list_all-append test word (after_words words)
    ∙ and_from (list_all test word) (list_all test (after_words words)) both.0
    (after_all test space words both.1))

-- if the space and each byte of the words pass a test, so does each byte of their line
pub spaced_all : (test : ℕ → Bool) → test 32 ≡ true → (words : List (List ℕ))
    → list_all (λ w. list_all test w) words ≡ true → list_all test (spaced words) ≡ true
spaced_all test space [] all = refl
spaced_all test space (word ∷ words) all =
    let both = and_parts (list_all test word) (list_all (λ w. list_all test w) words) all in
    list_all-append test word (after_words words)
    ∙ and_from (list_all test word) (list_all test (after_words words)) both.0 (after_all test space words both.1)

-- ---- the word `and`

either : (space : Bool) (cs : List ℕ) → word_here true cs ≡ false → word_here space cs ≡ false
either true cs none = none
either false cs none = never cs

-- if the word `and` doesn't begin at a character, and the characters after it aren't cut, the text from it on isn't cut
step : (space : Bool) (c : ℕ) (cs : List ℕ) → word_here space (c ∷ cs) ≡ false
    → between_ands (is_whitespace c) cs ≡ cs ∷ [] → between_ands space (c ∷ cs) ≡ (c ∷ cs) ∷ []
step space c cs here more = between_other space c cs here ∙ ap (prepend (c ∷ [])) more

run : (bs rest : List ℕ) → list_all (λ b. not (is_whitespace b)) bs ≡ true → between_ands false rest ≡ rest ∷ []
    → between_ands false (bs ++ rest) ≡ (bs ++ rest) ∷ []
run [] rest all more = more
run (b ∷ bs) rest all more =
    let both = and_parts (not (is_whitespace b)) (list_all (λ x. not (is_whitespace x)) bs) all in
    step false b (bs ++ rest) (never (b ∷ (bs ++ rest)))
    (ap (λ s. between_ands s (bs ++ rest)) (not-true (is_whitespace b) both.0) ∙ run bs rest both.1 more)

-- four tests don't all pass if the second one fails
no_space : (a d s : Bool) → (((a && false) && d) && s) ≡ false
no_space true d s = refl
no_space false d s = refl

-- the word `and` doesn't begin at the start of another word that a space or nothing follows
no_and : (b : ℕ) (bs : List ℕ) (words : List (List ℕ)) → list_all (λ x. not (is_whitespace x)) (b ∷ bs) ≡ true
    → is_word_and (b ∷ bs) ≡ false → word_here true (b ∷ (bs ++ after_words words)) ≡ false
no_and b [] [] all other = refl
no_and b [] ([] ∷ []) all other = refl
no_and b [] ([] ∷ w ∷ words) all other = no_space (b == 97) (32 == 100) (begins_with_space (w ++ after_words words))
no_and b [] ((c ∷ w) ∷ words) all other = no_space (b == 97) (c == 100) (begins_with_space (w ++ after_words words))
no_and b (c ∷ []) [] all other = refl
no_and b (c ∷ []) (w ∷ words) all other = ap (λ x. x && begins_with_space (w ++ after_words words)) (and-false (b == 97 && c == 110))
no_and b (c ∷ d ∷ []) [] all other = and-false (is_and b c d)
no_and b (c ∷ d ∷ []) (w ∷ words) all other = rw other refl
no_and b (c ∷ d ∷ e ∷ bs) words all other =
    let one = and_parts (not (is_whitespace b)) _ all in
    let two = and_parts (not (is_whitespace c)) _ one.1 in
    let three = and_parts (not (is_whitespace d)) _ two.1 in
    let four = and_parts (not (is_whitespace e)) _ three.1 in
    let last = not-true (is_whitespace e) four.0 in
    rw last (and-false (is_and b c d))

item : (space : Bool) (b : ℕ) (bs : List ℕ) (words : List (List ℕ)) → is_item (b ∷ bs) ≡ true
    → between_ands false (after_words words) ≡ after_words words ∷ []
    → between_ands space (b ∷ (bs ++ after_words words)) ≡ (b ∷ (bs ++ after_words words)) ∷ []
item space b bs words is more =
    let both = and_parts (is_solid (b ∷ bs)) (not (is_word_and (b ∷ bs))) is in
    let solid : list_all (λ x. not (is_whitespace x)) (b ∷ bs) ≡ true = both.0 in
    let parts = and_parts (not (is_whitespace b)) (list_all (λ x. not (is_whitespace x)) bs) solid in
    step space b (bs ++ after_words words)
    (either space (b ∷ (bs ++ after_words words)) (no_and b bs words solid (not-true (is_word_and (b ∷ bs)) both.1)))
    (ap (λ s. between_ands s (bs ++ after_words words)) (not-true (is_whitespace b) parts.0) ∙ run bs (after_words words) parts.1 more)

after_one : (words : List (List ℕ)) → list_all is_item words ≡ true → between_ands false (after_words words) ≡ after_words words ∷ []
after_one [] all = refl
after_one ([] ∷ words) all = absurd (false≢true all)
after_one ((b ∷ bs) ∷ words) all =
    let both = and_parts (is_item (b ∷ bs)) (list_all is_item words) all in
    step false 32 (b ∷ (bs ++ after_words words)) (never (32 ∷ b ∷ (bs ++ after_words words)))
    (item true b bs words both.0 (after_one words both.1))

-- a line of non-empty words without white space, none of which is `and`, is one part of an `and` list
pub spaced_one : (words : List (List ℕ)) → list_all is_item words ≡ true → between_ands false (spaced words) ≡ spaced words ∷ []
spaced_one [] all = refl
spaced_one ([] ∷ words) all = absurd (false≢true all)
spaced_one ((b ∷ bs) ∷ words) all =
    let both = and_parts (is_item (b ∷ bs)) (list_all is_item words) all in
    item false b bs words both.0 (after_one words both.1)

-- ---- the words of a name

-- the gap before a word: nothing before the first one, otherwise a space
abbrev pub gap_of : Bool → List Letter
gap_of first = cond first [] (letter false 32 ∷ [])

-- words with a gap of one space before each, except before the first one if the flag says so
abbrev pub words_at : Bool → List (List ℕ) → List Word
words_at first [] = []
words_at first (word ∷ words) = a_word (gap_of first) (map (letter false) word) ∷ words_at false words

solid_letters : (bs : List ℕ) → list_all (λ b. not (is_whitespace b)) bs ≡ true
    → list_all (λ l. not (is_gap l)) (map (letter false) bs) ≡ true
solid_letters [] all = refl
solid_letters (b ∷ bs) all =
    let both = and_parts (not (is_whitespace b)) (list_all (λ x. not (is_whitespace x)) bs) all in
    let here : is_gap (letter false b) ≡ false = let fails = not-true (is_whitespace b) both.0 in rw fails refl in
    rw here (solid_letters bs both.1)

-- the letters of an ASCII text, none of them verbatim
abbrev pub letters_of : List ℕ → List Letter
letters_of = map (letter false)

apart_after : (words : List (List ℕ)) → stand_apart (words_of (letters_of (after_words words))) ≡ true
apart_after [] = apart_end
apart_after (word ∷ words) = apart_gap (letter false 32) (letters_of (word ++ after_words words)) refl

one_word : (b : ℕ) (bs : List ℕ) (words : List (List ℕ)) → is_solid (b ∷ bs) ≡ true
    → words_of (letters_of (after_words words)) ≡ words_at false words
    → words_of (letters_of (b ∷ (bs ++ after_words words))) ≡ a_word [] (letters_of (b ∷ bs)) ∷ words_at false words
one_word b bs words solid more =
    let both = and_parts (not (is_whitespace b)) (list_all (λ x. not (is_whitespace x)) bs) solid in
    let here : is_gap (letter false b) ≡ false = let fails = not-true (is_whitespace b) both.0 in rw fails refl in
    ap (λ l. words_of (letter false b ∷ l)) (map-append (letter false) bs (after_words words))
    ∙ words_word (letter false b) (letters_of bs) (letters_of (after_words words)) here (solid_letters bs both.1) (apart_after words)
    ∙ ap (λ ws. a_word [] (letters_of (b ∷ bs)) ∷ ws) more

-- a text of solid words with a space before each has these words, each after a gap
after_words_of : (words : List (List ℕ)) → list_all is_solid words ≡ true → words_of (letters_of (after_words words)) ≡ words_at false words
after_words_of [] all = refl
after_words_of ([] ∷ words) all = absurd (false≢true all)
after_words_of ((b ∷ bs) ∷ words) all =
    let both = and_parts (is_solid (b ∷ bs)) (list_all is_solid words) all in
    words_gap (letter false 32 ∷ []) (letters_of (b ∷ (bs ++ after_words words))) (letters_of (b ∷ bs))
    (words_at false words) refl (one_word b bs words both.0 (after_words_of words both.1))

-- the words of a line of solid words are these words
pub spaced_words_of : (words : List (List ℕ)) → list_all is_solid words ≡ true → words_of (letters_of (spaced words)) ≡ words_at true words
spaced_words_of [] all = refl
spaced_words_of ([] ∷ words) all = absurd (false≢true all)
spaced_words_of ((b ∷ bs) ∷ words) all =
    let both = and_parts (is_solid (b ∷ bs)) (list_all is_solid words) all in
    one_word b bs words both.0 (after_words_of words both.1)

-- the letters of words with a gap before each are those of their text
pub letters_after : (words : List (List ℕ)) → word_letters false (words_at false words) ≡ letters_of (after_words words)
letters_after [] = refl
letters_after (word ∷ words) =
    ap (λ l. letter false 32 ∷ (letters_of word ++ l)) (letters_after words)
    ∙ ap (λ l. letter false 32 ∷ l) (sym (map-append (letter false) word (after_words words)))

-- the letters of words are those of their line
pub letters_spaced : (first : Bool) (words : List (List ℕ)) → word_letters true (words_at first words) ≡ letters_of (spaced words)
letters_spaced first [] = refl
letters_spaced first (word ∷ words) =
    ap (λ l. letters_of word ++ l) (letters_after words) ∙ sym (map-append (letter false) word (after_words words))
