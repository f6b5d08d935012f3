-- Segments of a condition: cutting the tokens at a word, and parsing one segment after another.
use Rattle.std.proofs.Common.{◌≡◌, ◌<◌, ◌≤◌, ◌+◌, ◌-◌, ℕ, true, false, List, [], ◌∷◌, ◌++◌, length, take, drop, get_or, refl, sym, ap, subst, ◌∙◌, append_assoc, arith, map, Option, Some, None, add-one, length-drop}
use Rattle.std.specs.Prelude.{Result, Ok, Err}
use Rattle.std.proofs.lemmas.Bool.{cond-true, cond-false}
use Rattle.std.proofs.lemmas.List.{map-append, append-nil, take_more, take_all, drop_all}
use Rattle.std.proofs.Math.Seq.{drop-cons}
use Rattle.bib_text.proofs.ListFacts.{take_to_end}
use Rattle.bib_select.specs.Tokens.{Placed}
use Rattle.bib_select.specs.Segments.{Segment, and_then, is_keyword, segments_between, try_map, with_token}
use Rattle.bib_select.specs.Scanning.{IsReadError}
use Rattle.bib_select.specs.Views.{placed_of, token_of}
use Rattle.bib_select.specs.declared.errors.SelectionError.{SelectionError}
use Rattle.bib_select.specs.declared.errors.SelectionError.TheVariants.{Malformed, OutOfMemory}
use Rattle.bib_select.specs.declared.segments.Segment as segments
use Rattle.bib_select.specs.declared.tokens.Placed as declared

-- the next step, as an operator
infixl 10 ◌>>=◌
abbrev pub ◌>>=◌ : {A B : Type 0} → Result A SelectionError → (A → Result B SelectionError) → Result B SelectionError
r >>= next = and_then r next

-- ---- cutting at a word

-- segments with tokens before the first of them
abbrev pub with_tokens : List Placed → List Segment → List Segment
with_tokens [] segments = segments
with_tokens (placed ∷ rest) segments = with_token placed (with_tokens rest segments)

-- adding a token before segments, and then tokens before it, adds these tokens followed by that one
pub with_one_more : (before : List Placed) (placed : Placed) (segments : List Segment)
    → with_tokens before (with_token placed segments) ≡ with_tokens (before ++ placed ∷ []) segments
with_one_more [] placed segments = refl
with_one_more (first ∷ before) placed segments = ap (with_token first) (with_one_more before placed segments)

-- tokens that are added before a segment without tokens are its tokens
pub before_none : (before : List Placed) (end : ℕ) (segments : List Segment)
    → with_tokens before (record { tokens = []; end = end } ∷ segments) ≡ record { tokens = before; end = end } ∷ segments
before_none [] end segments = refl
before_none (first ∷ before) end segments = ap (with_token first) (before_none before end segments)

-- cutting all tokens gives the segments of the tokens from an index on, with the tokens before it added to the first one
pub record UncutSoFar (joint : List ℕ) (end : ℕ) (tokens : List declared.Placed) (index : ℕ) : Type 0 where
  pub same : segments_between joint end (map placed_of tokens)
      ≡ with_tokens (map placed_of (take index tokens)) (segments_between joint end (map placed_of (drop index tokens)))

pub uncut_begin : (joint : List ℕ) (end : ℕ) (tokens : List declared.Placed) → UncutSoFar joint end tokens 0
uncut_begin joint end tokens = record { same = refl }

-- the tokens from an index on are the one at the index and those after it
left_at : (tokens : List declared.Placed) (index : ℕ) (d : declared.Placed) → index < length tokens
    → drop index tokens ≡ get_or tokens index d ∷ drop (index + 1) tokens
left_at tokens index d within = rw (add-one, drop-cons tokens index d)

pub uncut_more : (joint : List ℕ) (end : ℕ) (tokens : List declared.Placed) (index : ℕ) (d : declared.Placed)
    → UncutSoFar joint end tokens index → index < length tokens
    → is_keyword joint (token_of (get_or tokens index d).token) ≡ false → UncutSoFar joint end tokens (index + 1)
uncut_more joint end tokens index d so within other = record {
  same =
      so.same
      ∙ ap (λ l. with_tokens (map placed_of (take index tokens)) (segments_between joint end (map placed_of l)))
      (left_at tokens index d within)
      ∙ ap (with_tokens (map placed_of (take index tokens))) (cond-false _ _ _ other)
      ∙ with_one_more (map placed_of (take index tokens)) (placed_of (get_or tokens index d)) _
      ∙ ap (λ l. with_tokens l (segments_between joint end (map placed_of (drop (index + 1) tokens))))
      (sym (map-append placed_of (take index tokens) (get_or tokens index d ∷ []))
      ∙ ap (map placed_of) (sym (take_more tokens index d within)));
}

-- the first such word ends the first segment; the others are those of the tokens after the word
pub cut_here : (joint : List ℕ) (end : ℕ) (tokens : List declared.Placed) (index : ℕ) (d : declared.Placed)
    → UncutSoFar joint end tokens index → index < length tokens
    → is_keyword joint (token_of (get_or tokens index d).token) ≡ true
    → segments_between joint end (map placed_of tokens)
    ≡ record { tokens = map placed_of (take index tokens); end = (get_or tokens index d).at }
    ∷ segments_between joint end (map placed_of (take (length tokens - (index + 1)) (drop (index + 1) tokens)))
cut_here joint end tokens index d so within here =
    so.same
    ∙ ap (λ l. with_tokens (map placed_of (take index tokens)) (segments_between joint end (map placed_of l)))
    (left_at tokens index d within)
    ∙ ap (with_tokens (map placed_of (take index tokens))) (cond-true _ _ _ here)
    ∙ before_none (map placed_of (take index tokens)) (get_or tokens index d).at
    (segments_between joint end (map placed_of (drop (index + 1) tokens)))
    ∙ ap
    (λ l. record { tokens = map placed_of (take index tokens); end = (get_or tokens index d).at }
    ∷ segments_between joint end (map placed_of l))
    (sym (take_to_end tokens (index + 1)))

-- without such a word, there is one segment
pub cut_nowhere : (joint : List ℕ) (end : ℕ) (tokens : List declared.Placed) (index : ℕ) → UncutSoFar joint end tokens index
    → length tokens ≤ index
    → segments_between joint end (map placed_of tokens) ≡ record { tokens = map placed_of tokens; end = end } ∷ []
cut_nowhere joint end tokens index so past =
    so.same
    ∙ ap (λ l. with_tokens (map placed_of (take index tokens)) (segments_between joint end (map placed_of l))) (drop_all index tokens past)
    ∙ before_none (map placed_of (take index tokens)) end []
    ∙ ap (λ l. record { tokens = map placed_of l; end = end } ∷ []) (take_all index tokens past)

-- ---- parsing one segment after another

-- the results for a concatenation are those for the first list, and then those for the second
try_map-append : {A B : Type 0} (f : A → Result B SelectionError) (xs ys : List A)
    → try_map f (xs ++ ys) ≡ (try_map f xs >>= λ front. try_map f ys >>= λ bs. Ok (front ++ bs))
try_map-append f [] ys = empty (try_map f ys)
  where
    empty : {B : Type 0} (r : Result (List B) SelectionError) → r ≡ (r >>= λ bs. Ok bs)
    empty (Ok bs) = refl
    empty (Err e) = refl
try_map-append f (x ∷ xs) ys =
    ap (λ r. f x >>= λ b. r >>= λ bs. Ok (b ∷ bs)) (try_map-append f xs ys) ∙ regroup (f x) (try_map f xs) (try_map f ys)
  where
    regroup : {B : Type 0} (one : Result B SelectionError) (front bs : Result (List B) SelectionError)
        → (one >>= λ b. (front >>= λ l. bs >>= λ m. Ok (l ++ m)) >>= λ r. Ok (b ∷ r))
        ≡ ((one >>= λ b. front >>= λ l. Ok (b ∷ l)) >>= λ l. bs >>= λ m. Ok (l ++ m))
    regroup (Err e) front bs = refl
    regroup (Ok b) (Err e) bs = refl
    regroup (Ok b) (Ok l) (Err e) = refl
    regroup (Ok b) (Ok l) (Ok m) = refl

-- the values of the segments so far, and the segments that are left
pub record ReadSoFar {A B : Type 0} (f : A → Result B SelectionError) (whole : List A) (values : List B) (left : List A) : Type 0 where
  pub done : List A
  pub split : whole ≡ done ++ left
  pub read : try_map f done ≡ Ok values

pub read_begin : {A B : Type 0} (f : A → Result B SelectionError) (whole : List A) → ReadSoFar f whole [] whole
read_begin f whole = record { done = []; split = refl; read = refl }

-- after the next segment is parsed, its value is the last of the values so far
pub read_more : {A B : Type 0} {f : A → Result B SelectionError} {whole : List A} {values : List B} {x : A} {rest : List A} (b : B)
    → ReadSoFar f whole values (x ∷ rest) → f x ≡ Ok b → ReadSoFar f whole (values ++ b ∷ []) rest
read_more {f = f} {values = values} {x = x} {rest = rest} b so is = record {
  done = so.done ++ x ∷ [];
  split = so.split ∙ sym (append_assoc so.done (x ∷ []) rest);
  read =
      try_map-append f so.done (x ∷ [])
      ∙ ap (λ r. r >>= λ front. (f x >>= λ one. Ok (one ∷ [])) >>= λ bs. Ok (front ++ bs)) so.read
      ∙ ap (λ r. (r >>= λ one. Ok (one ∷ [])) >>= λ bs. Ok (values ++ bs)) is;
}

-- if no segment is left, the values so far are the result
pub read_end : {A B : Type 0} {f : A → Result B SelectionError} {whole : List A} {values : List B} → ReadSoFar f whole values []
    → try_map f whole ≡ Ok values
read_end {f = f} so = ap (try_map f) (so.split ∙ append-nil so.done) ∙ so.read

-- the first error is the result
pub read_failed : {A B : Type 0} {f : A → Result B SelectionError} {whole : List A} {values : List B} {x : A} {rest : List A}
    (e : SelectionError)
    → ReadSoFar f whole values (x ∷ rest) → f x ≡ Err e → try_map f whole ≡ Err e
read_failed {f = f} {values = values} {x = x} {rest = rest} e so is =
    ap (try_map f) so.split
    ∙ try_map-append f so.done (x ∷ rest)
    ∙ ap (λ r. r >>= λ front. (f x >>= λ one. try_map f rest >>= λ others. Ok (one ∷ others)) >>= λ bs. Ok (front ++ bs)) so.read
    ∙ ap (λ r. (r >>= λ one. try_map f rest >>= λ others. Ok (one ∷ others)) >>= λ bs. Ok (values ++ bs)) is

-- the error of a result is an error in the sense of `IsReadError`
pub refused_with : {A : Type 0} {outcome : Result A SelectionError} (e : SelectionError) → outcome ≡ Err e → IsReadError outcome e
refused_with OutOfMemory is = tt
refused_with (Malformed kind at) is = is

-- the error of the first segment that fails is that of all
pub read_refused : {A B : Type 0} {f : A → Result B SelectionError} {whole : List A} {values : List B} {x : A} {rest : List A}
    (e : SelectionError)
    → ReadSoFar f whole values (x ∷ rest) → IsReadError (f x) e → IsReadError (try_map f whole) e
read_refused OutOfMemory so refused = tt
read_refused (Malformed kind at) so refused = read_failed (Malformed kind at) so refused

-- one more than the number of tokens that are left, or 0 if no segment is left
abbrev pub tokens_left : Option segments.Segment → ℕ
tokens_left None = 0
tokens_left (Some rest) = length rest.tokens.now + 1

-- if segments are left, an equal list of segments is left
pub left_is : {A B : Type 0} {f : A → Result B SelectionError} {whole : List A} {values : List B} {left same : List A} → left ≡ same
    → ReadSoFar f whole values left → ReadSoFar f whole values same
left_is {f = f} {whole = whole} {values = values} is so = subst (λ l. ReadSoFar f whole values l) is so
