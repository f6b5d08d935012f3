-- Facts about the indices of entries by names.
use Rattle.std.proofs.Common.{◌≡◌, ℕ, suc, ◌+◌, ◌<◌, Bool, true, false, cond, List, [], ◌∷◌, ◌++◌, Option, Some, None, length, map, take, get_or, refl, sym, ap, ◌∙◌, arith}
use Rattle.std.specs.Prelude.{String, bytes_eq, is_some}
use Rattle.std.specs.Borrow.{Bor}
use Rattle.std.specs.BTreeMap.{BTreeMap, get_by_text}
use Rattle.std.specs.Str.{str_to_ascii_lowercase}
use Rattle.std.proofs.lemmas.List.{length-map, length-take-le}
use Rattle.std.proofs.lemmas.Slice.Eq.{bytes_eq-Decides}
use Rattle.bib_text.proofs.ListFacts.{mapped_more}
use Rattle.bib_syntax.specs.Grammar.{is_word}
use Rattle.bib_syntax.specs.Reading.{EntryReading}
use Rattle.std.specs.Option.{option_or}
use Rattle.bib_text.proofs.OptionFacts.{or_none}
use Rattle.edit_entries.specs.Documents.{first_position, next_index}
use Rattle.edit_entries.specs.NewKeys.{index_for, index_for_word}

-- ---- one index or else another

-- if a name already has an index, giving it another one changes nothing
stays : (is : Bool) (found : Option ℕ) (index : ℕ) → (is ≡ true → is_some found ≡ true)
    → found ≡ option_or found (cond is (Some index) None)
stays true None index some = absurd (let clash : false ≡ true = some refl in cc)
stays true (Some own) index some = refl
stays false found index some = sym (or_none found)

-- if a name has no index, it gets the new one, and other names keep theirs
given : (is : Bool) (old new : Option ℕ) (index : ℕ) → (is ≡ true → is_some old ≡ false)
    → new ≡ cond is (Some index) old → new ≡ option_or old (cond is (Some index) None)
given true None new index none same = same
given true (Some own) new index none same = absurd (let clash : true ≡ false = none refl in cc)
given false old new index none same = same ∙ sym (or_none old)

-- giving an index to names and then to one more name is giving it to all of them
pub given_more : (found : Option ℕ) (one others : Bool) (index : ℕ)
    → option_or (option_or found (cond others (Some index) None)) (cond one (Some index) None)
    ≡ option_or found (cond (cond one true others) (Some index) None)
given_more (Some own) one others index = refl
given_more None true true index = refl
given_more None true false index = refl
given_more None false true index = refl
given_more None false false index = refl

-- ---- maps with an index for a name

pub has_index : (indices : BTreeMap (Bor (List ℕ)) ℕ) (name other : List ℕ) (index : ℕ) → is_some (index_for indices name) ≡ true
    → index_for indices other ≡ option_or (index_for indices other) (cond (bytes_eq name other) (Some index) None)
has_index indices name other index some =
    stays (bytes_eq name other) (index_for indices other) index
    (λ is. ap (λ n. is_some (index_for indices n)) (sym ((bytes_eq-Decides name other).0 is)) ∙ some)

pub gets_index : (old new : BTreeMap (Bor (List ℕ)) ℕ) (name other : List ℕ) (index : ℕ) → is_some (index_for old name) ≡ false
    → index_for new other ≡ cond (bytes_eq name other) (Some index) (index_for old other)
    → index_for new other ≡ option_or (index_for old other) (cond (bytes_eq name other) (Some index) None)
gets_index old new name other index none same =
    given (bytes_eq name other) (index_for old other) (index_for new other) index
    (λ is. ap (λ n. is_some (index_for old n)) (sym ((bytes_eq-Decides name other).0 is)) ∙ none) same

-- if a name has an index in ASCII lowercase, giving it another one changes nothing
pub has_word_index : {A : Type 0} (indices : BTreeMap (String A) ℕ) (low name other : List ℕ) (index : ℕ)
    → low ≡ str_to_ascii_lowercase name → is_some (get_by_text indices low) ≡ true
    → index_for_word indices other ≡ option_or (index_for_word indices other) (cond (is_word name other) (Some index) None)
has_word_index indices low name other index lower some =
    stays (is_word name other) (index_for_word indices other) index
    (λ is.
    ap (λ n. is_some (get_by_text indices n))
    (sym ((bytes_eq-Decides (str_to_ascii_lowercase name) (str_to_ascii_lowercase other)).0 is) ∙ sym lower)
    ∙ some)

pub gets_word_index : {A : Type 0} (old new : BTreeMap (String A) ℕ) (low name other : List ℕ) (index : ℕ)
    → low ≡ str_to_ascii_lowercase name → is_some (get_by_text old low) ≡ false
    → index_for_word new other ≡ cond (bytes_eq low (str_to_ascii_lowercase other)) (Some index) (index_for_word old other)
    → index_for_word new other ≡ option_or (index_for_word old other) (cond (is_word name other) (Some index) None)
gets_word_index old new low name other index lower none same =
    given (is_word name other) (index_for_word old other) (index_for_word new other) index
    (λ is.
    ap (λ n. is_some (get_by_text old n))
    (sym ((bytes_eq-Decides (str_to_ascii_lowercase name) (str_to_ascii_lowercase other)).0 is) ∙ sym lower)
    ∙ none)
    (same ∙ ap (λ l. cond (bytes_eq l (str_to_ascii_lowercase other)) (Some index) (index_for_word old other)) lower)

-- ---- the first entry that passes a test

first_append : (test : EntryReading → Bool) (xs : List EntryReading) (x : EntryReading)
    → first_position test (xs ++ x ∷ []) ≡ option_or (first_position test xs) (cond (test x) (Some (length xs)) None)
first_append test [] x = refl
first_append test (y ∷ ys) x =
    here (test y) (test x) (length ys) (first_position test ys) (first_position test (ys ++ x ∷ [])) (first_append test ys x)
  where
    here : (first last : Bool) (n : ℕ) (now all : Option ℕ) → all ≡ option_or now (cond last (Some n) None)
        → cond first (Some 0) (next_index all) ≡ option_or (cond first (Some 0) (next_index now)) (cond last (Some (suc n)) None)
    here true last n now all same = refl
    here false last n (Some i) all same = ap next_index same
    here false true n None all same = ap next_index same
    here false false n None all same = ap next_index same

-- the first entry that passes among the first `i + 1` is the first one that passes among the first `i`, or else the one at `i` if it passes
pub first_more : {A : Type 0} (view : A → EntryReading) (test : EntryReading → Bool) (xs : List A) (i : ℕ) (x : A)
    → i < length xs → x ≡ get_or xs i x
    → first_position test (map view (take (i + 1) xs))
    ≡ option_or (first_position test (map view (take i xs))) (cond (test (view x)) (Some i) None)
first_more view test xs i x within is =
    let size : length (map view (take i xs)) ≡ i = length-map (take i xs) view ∙ length-take-le i xs (omega arith) in
    ap (first_position test) (mapped_more view xs i x within is) ∙ first_append test (map view (take i xs)) (view x)
    ∙ ap (λ n. option_or (first_position test (map view (take i xs))) (cond (test (view x)) (Some n) None)) size

-- `old` is the index of the first entry that passes among the first `i` ones. `new` is `old`, or else `i` if the entry there passes. Then
-- `new` is the index of the first that passes among the first `i + 1`
pub index_more : {A : Type 0} (view : A → EntryReading) (test : EntryReading → Bool) (xs : List A) (i : ℕ) (x : A) (old new : Option ℕ)
    → i < length xs → x ≡ get_or xs i x → old ≡ first_position test (map view (take i xs))
    → new ≡ option_or old (cond (test (view x)) (Some i) None)
    → new ≡ first_position test (map view (take (i + 1) xs))
index_more view test xs i x old new within is so_far more =
    more ∙ ap (λ o. option_or o (cond (test (view x)) (Some i) None)) so_far ∙ sym (first_more view test xs i x within is)
