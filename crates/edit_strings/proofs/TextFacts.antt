-- Lists of texts in loops: one more text, one more line, one more name.
use Rattle.std.proofs.Common.{◌≡◌, ℕ, ◌+◌, ◌<◌, ◌||◌, Bool, true, false, cond, List, [], ◌∷◌, ◌++◌, length, take, map, get_or, refl, sym, ap, ◌∙◌, arith, append_assoc, append-nil, Option, Some}
use Rattle.std.specs.Prelude.{MatchBool, bytes_eq, is_some}
use Rattle.std.proofs.lemmas.Bool.{false≢true}
use Rattle.std.specs.List.{list_any}
use Rattle.std.specs.Option.{option_map_or}
use Rattle.std.proofs.lemmas.List.{length-map, length-take-le, map-append, take_more}
use Rattle.std.proofs.lemmas.List.Folds.{list_any-append}
use Rattle.std.proofs.lemmas.List.Sums.{fold_push}
use Rattle.std.proofs.lemmas.Slice.Eq.{bytes_eq-Decides}
use Rattle.bib_queries.specs.Needed.{is_listed}
use Rattle.bib_syntax.specs.Reading.{FileReading}
use Rattle.edit_strings.specs.Collected.{string_line, definition_lines, known_name, times_of}

module _ {A B : Type 0} (view : A → B) (xs : List A) (i : ℕ) (x : A) (within : i < length xs) (is : x ≡ get_or xs i x) where
  pub one_more : map view (take (i + 1) xs) ≡ map view (take i xs) ++ view x ∷ []
  one_more = ap (map view) (take_more xs i x within ∙ ap (λ y. take i xs ++ y ∷ []) (sym is)) ∙ map-append view (take i xs) (x ∷ [])

  pub size_so_far : length (map view (take i xs)) ≡ i
  size_so_far = length-map (take i xs) view ∙ length-take-le i xs (omega arith)

times_push : (text : List ℕ) (ts : List (List ℕ)) (t : List ℕ)
    → times_of text (ts ++ t ∷ []) ≡ times_of text ts + cond (bytes_eq t text) 1 0
times_push text ts t = fold_push (λ a u. a + cond (bytes_eq u text) 1 0) 0 ts t

-- the count of a text after one more text is added
pub counted_more : (text t : List ℕ) (ts : List (List ℕ)) (old : Option ℕ) (count : ℕ) → count ≡ times_of t ts
    → option_map_or (λ n. n) old 0 ≡ times_of text ts
    → option_map_or (λ n. n) (cond (bytes_eq t text) (Some (count + 1)) old) 0 ≡ times_of text (ts ++ t ∷ [])
counted_more text t ts old count counted before = by_case (bytes_eq t text) refl ∙ sym (times_push text ts t)
  where
    by_case : (b : Bool) → bytes_eq t text ≡ b → option_map_or (λ n. n) (cond b (Some (count + 1)) old) 0 ≡ times_of text ts + cond b 1 0
    by_case true same = let is : t ≡ text = (bytes_eq-Decides t text).0 same in ap (λ n. n + 1) (counted ∙ ap (λ u. times_of u ts) is)
    by_case false other = let none : times_of text ts ≡ times_of text ts + 0 = omega arith in before ∙ none

-- with one more name, the lines are those for the names before it, and its line unless its text has a known name
pub lines_push : (says : FileReading) (line_end : List ℕ) (names texts : List (List ℕ)) (name text : List ℕ) → length names ≡ length texts
    → definition_lines says line_end (names ++ name ∷ []) (texts ++ text ∷ [])
    ≡ definition_lines says line_end names texts ++ cond (is_some (known_name says text)) [] (string_line line_end name text)
lines_push says line_end [] [] name text same = append-nil (cond (is_some (known_name says text)) [] (string_line line_end name text))
lines_push says line_end [] (t ∷ ts) name text same = absurd (omega arith)
lines_push says line_end (n ∷ ns) [] name text same = absurd (omega arith)
lines_push says line_end (n ∷ ns) (t ∷ ts) name text same =
    let first : List ℕ = cond (is_some (known_name says t)) [] (string_line line_end n t) in
    ap (λ l. first ++ l) (lines_push says line_end ns ts name text (omega arith))
    ∙ sym (append_assoc first (definition_lines says line_end ns ts)
    (cond (is_some (known_name says text)) [] (string_line line_end name text)))

-- ---- names among names

pub any_push : {A : Type 0} (test : A → Bool) (xs : List A) (x : A) → list_any test (xs ++ x ∷ []) ≡ (test x || list_any test xs)
any_push test xs x =
    let last : (list_any test xs || list_any test (x ∷ [])) ≡ (test x || list_any test xs) = by_case (list_any test xs) (test x) in
    list_any-append test xs (x ∷ []) ∙ last
  where
    by_case : (a b : Bool) → (a || (b || false)) ≡ (b || a)
    by_case true true = refl
    by_case true false = refl
    by_case false true = refl
    by_case false false = refl

pub listed_push : (xs : List (List ℕ)) (x name : List ℕ) → is_listed (xs ++ x ∷ []) name ≡ (bytes_eq x name || is_listed xs name)
listed_push xs x name = any_push (λ one. bytes_eq one name) xs x

pub match_true : (b : Bool) (P Q : Type 0) → MatchBool b P Q → b ≡ true → P
match_true true P Q holds is = holds
match_true false P Q holds is = absurd (false≢true is)

pub match_false : (b : Bool) (P Q : Type 0) → MatchBool b P Q → b ≡ false → Q
match_false true P Q holds is = absurd (false≢true (sym is))
match_false false P Q holds is = holds

pub or_assoc : (a b c : Bool) → (a || (b || c)) ≡ ((a || b) || c)
or_assoc true b c = refl
or_assoc false b c = refl

pub or_swap : (a b c : Bool) → (a || (b || c)) ≡ ((b || a) || c)
or_swap true true c = refl
or_swap true false c = refl
or_swap false true c = refl
or_swap false false c = refl
