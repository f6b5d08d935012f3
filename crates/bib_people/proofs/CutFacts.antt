-- Facts about the cuts of names.
use Rattle.std.proofs.Common.{◌≡◌, ℕ, ◌+◌, ◌-◌, ◌<◌, ◌≤◌, Bool, true, false, List, [], ◌∷◌, length, take, drop, get_or, refl, sym, ap, ◌∙◌, cond, suc, arith, ⊎_elim, ◌≢◌, Option, Some, None}
use Rattle.std.proofs.lemmas.List.Folds.{list_any_at}
use Rattle.std.proofs.lemmas.Str.Pattern.{rfind_char}
use Rattle.std.specs.Str.Pattern.{RFindsChar}
use Rattle.std.specs.Prelude.{not, MatchOption}
use Rattle.std.specs.List.{list_any, suffix_len}
use Rattle.std.specs.Str.{IsUtf8, IsCharBoundary}
use Rattle.std.proofs.lemmas.List.{drop_more}
use Rattle.std.proofs.lemmas.List.Sums.{suffix_len_is}
use Rattle.std.proofs.lemmas.Bool.{cases_Bool, ne_eqb}
use Rattle.std.proofs.lemmas.Str.{IsCharBoundary-after_ascii}
use Rattle.bib_people.specs.Letters.{Word}
use Rattle.bib_people.specs.Names.{through_last, is_space_byte}
use Rattle.bib_people.specs.WordKinds.{IsLastSpace}

-- the invariant of the search: the last word that passes is among those left or, if none of them passes, right before
-- `end`, which is 0 if no word passes
pub record Through (test : Word → Bool) (words : List Word) (i end : ℕ) : Type 0 where
  pub is : through_last test words ≡ cond (list_any test (drop i words)) (i + through_last test (drop i words)) end
  pub within : end ≤ i

-- if no word passes a test, `through_last` is 0
pub through_none : (test : Word → Bool) (words : List Word) → list_any test words ≡ false → through_last test words ≡ 0
through_none test [] none = refl
through_none test (word ∷ words) none = rw none refl

cond_at : (b : Bool) (n : ℕ) → n ≡ cond b n 0 → n ≡ cond b (0 + n) 0
cond_at true n is = omega arith
cond_at false n is = is

one_cond : (test : Word → Bool) (words : List Word) → through_last test words ≡ cond (list_any test words) (through_last test words) 0
one_cond test [] = refl
one_cond test (word ∷ words) = ⊎_elim (λ yes. rw yes refl) (λ no. rw no refl) (cases_Bool (list_any test (word ∷ words)))

-- at the start of the search no word has passed
pub through_init : (test : Word → Bool) (words : List Word) → Through test words 0 0
through_init test words = record {
  is = cond_at (list_any test words) (through_last test words) (one_cond test words);
  within = omega arith;
}

-- the arithmetic of a step at a word that passes
step_yes : (n i t : ℕ) (b : Bool) → (b ≡ false → t ≡ 0) → n ≡ cond true (i + cond true (1 + t) 0) 0 → n ≡ cond b (i + 1 + t) (i + 1)
step_yes n i t true none is = is ∙ omega arith
step_yes n i t false none is = let zero : t ≡ 0 = none refl in is ∙ omega arith

step_no : (n i t end : ℕ) (b : Bool) → n ≡ cond b (i + cond b (1 + t) 0) end → n ≡ cond b (i + 1 + t) end
step_no n i t end true is = is ∙ omega arith
step_no n i t end false is = is

at_word : (test : Word → Bool) (words : List Word) (i : ℕ) (word : Word) → i < length words → word ≡ get_or words i word
    → drop i words ≡ word ∷ drop (i + 1) words
at_word test words i word within is = drop_more words i word within ∙ ap (λ w. w ∷ drop (i + 1) words) (sym is)

-- a step of the search: a word that passes
pub through_yes : (test : Word → Bool) (words : List Word) (i end : ℕ) (word : Word) → i < length words
    → word ≡ get_or words i word → test word ≡ true → Through test words i end → Through test words (i + 1) (i + 1)
through_yes test words i end word within is passes so_far =
    let here = so_far.is in
    let more = rw (at_word test words i word within is, passes) at here in
    record {
      is =
          step_yes (through_last test words) i (through_last test (drop (i + 1) words))
          (list_any test (drop (i + 1) words)) (through_none test (drop (i + 1) words)) more;
      within = omega arith;
    }

-- a step of the search: a word that fails
pub through_no : (test : Word → Bool) (words : List Word) (i end : ℕ) (word : Word) → i < length words
    → word ≡ get_or words i word → test word ≡ false → Through test words i end → Through test words (i + 1) end
through_no test words i end word within is fails so_far =
    let here = so_far.is in
    let more = rw (at_word test words i word within is, fails) at here in
    record {
      is =
          step_no (through_last test words) i (through_last test (drop (i + 1) words)) end
          (list_any test (drop (i + 1) words)) more;
      within = omega arith;
    }

-- if no byte of a text is 32, none is a space
pub no_space : (text : List ℕ) → ((i : ℕ) → i < length text → get_or text i 0 ≢ 32) → list_any is_space_byte text ≡ false
no_space [] none = refl
no_space (b ∷ bs) none = rw (ne_eqb b 32 (none 0 (omega arith)), no_space bs (λ i within. none (suc i) (omega arith))) refl

-- in UTF-8 text, a space after which there is no other is the last one
last_at : (text : List ℕ) (at : ℕ) → IsUtf8 text → IsCharBoundary text at → at < length text → get_or text at 0 ≡ 32
    → ((i : ℕ) → at < i → i < length text → get_or text i 0 ≢ 32) → IsLastSpace text at
last_at text at utf8 boundary within here later =
    let passes : is_space_byte (get_or text at 0) ≡ true = rw here refl in
    let fails : (at + 1 - 1 ≡ at) = omega arith in
    let following : suffix_len (λ b. not (is_space_byte b)) text ≡ length text - (at + 1) =
    suffix_len_is (λ b. not (is_space_byte b)) text (at + 1) 0 (omega arith)
    (λ k past less. rw (ne_eqb (get_or text k 0) 32 (later k (omega arith) less)) refl)
    (λ some. rw (fails, passes) refl) in
    record {
      some = list_any_at is_space_byte text at 0 within passes;
      within = within;
      before = ap (λ n. take n text) (let e : length text - suffix_len (λ b. not (is_space_byte b)) text - 1 ≡ at = omega arith in e);
      after = ap (λ n. drop n text) (let e : length text - suffix_len (λ b. not (is_space_byte b)) text ≡ at + 1 = omega arith in e);
      boundary = boundary;
      next = IsCharBoundary-after_ascii text at utf8 within (omega arith);
    }

-- for a space in UTF-8 text, `rfind` returns the byte offset of the last one, or `None` if there is none
pub last_space_found : (text : List ℕ) (r : Option ℕ) → IsUtf8 text
    → MatchOption r (RFindsChar 32 text None)
    (λ i. (j : ℕ) × RFindsChar 32 text (Some (i, j)) × (i ≤ j) × IsCharBoundary text i × IsCharBoundary text j)
    → MatchOption r (list_any is_space_byte text ≡ false) (IsLastSpace text)
last_space_found text None utf8 found = no_space text (rfind_char 32 text None found (omega arith))
last_space_found text (Some at) utf8 found =
    let is = rfind_char 32 text (Some at) found (omega arith) in
    last_at text at utf8 found.3 is.0 is.1 is.2
