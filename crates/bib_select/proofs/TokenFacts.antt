-- Tokens of a text: each one is determined by the characters at its place, and they are scanned from left to right.
use Rattle.std.proofs.Common.{◌≡◌, ◌<◌, ◌-◌, ℕ, Bool, true, false, List, [], ◌∷◌, ◌++◌, length, refl, sym, ap, subst, inl, inr, append_assoc, Option, Some, None, MatchOption}
use Rattle.std.specs.Prelude.{◌==◌, not, ◌&&◌, Result, Ok, Err}
use Rattle.std.specs.Char.{is_whitespace}
use Rattle.std.proofs.lemmas.Bool.{eqb-true, not-false}
use Rattle.std.proofs.lemmas.List.{append-nil}
use Rattle.bib_text.specs.Places.{Place, CharAt, Longest, AtEnd, EndsOr, Stops, between}
use Rattle.bib_text.proofs.PlaceFacts.{same_char, no_char_at_end, ahead_run, ahead_char, ahead_then, run_rest, left_smaller}
use Rattle.bib_select.specs.Tokens.{Token, Placed, AreTokens, IsToken, IsUnclosed, is_quote, is_sign_character, is_word_character, with_prefix}
use Rattle.bib_select.specs.Tokens.Token.{word, quoted, sign}
use Rattle.bib_select.specs.Tokens.IsToken.{a_word, a_sign, a_quoted_text}
use Rattle.bib_select.specs.Tokens.{AreTokens as tokens}
use Rattle.bib_select.specs.Scanning.{IsNextToken, IsTokenError, IsTokensError}
use Rattle.bib_select.specs.declared.errors.SelectionError.{SelectionError}

-- the text between two quotes is a token
pub quoted_text : {u v w x : Place} {q : ℕ} (text : List ℕ) → CharAt u q v → is_quote q ≡ true → Longest (λ c. not (c == q)) v w
    → text ≡ between v w → CharAt w q x → IsToken u (quoted text) x
quoted_text {u} {x = x} text opening quote inside is closing =
    subst (λ t. IsToken u (quoted t) x) (sym is) (a_quoted_text opening quote inside closing)

-- if a run of characters other than a quote isn't followed by this quote, it goes to the end of the text
pub no_closing : {w : Place} (q : ℕ) {Holds : ℕ → Type 0} → EndsOr Holds w → Stops (λ c. not (c == q)) w
    → ((v : Place) → CharAt w q v → ⊥) → AtEnd w
no_closing q (inl end) stops absent = end
no_closing {w} q (inr (c, v, char, holds)) stops absent =
    absurd (absent v (subst (λ x. CharAt w x v) (eqb-true c q (not-false (c == q) (stops c v char))) char))

-- a longest run of word characters, if it isn't empty, is a token
pub word_here : {u v w : Place} {c : ℕ} (text : List ℕ) → CharAt u c w → is_word_character c ≡ true → Longest is_word_character u v
    → text ≡ between u v → IsToken u (word text) v
word_here {u} {v} text char passes longest is = subst (λ t. IsToken u (word t) v) (sym is) (a_word char passes longest)

-- a longest run of characters of signs, if it isn't empty, is a token
pub sign_here : {u v w : Place} {c : ℕ} (text : List ℕ) → CharAt u c w → is_sign_character c ≡ true → Longest is_sign_character u v
    → text ≡ between u v → IsToken u (sign text) v
sign_here {u} {v} text char passes longest is = subst (λ t. IsToken u (sign t) v) (sym is) (a_sign char passes longest)

all_false : (a b c : Bool) → a ≡ false → b ≡ false → c ≡ false → (not a && not b && not c) ≡ true
all_false false false false x y z = refl
all_false true b c x y z = absurd (cc)
all_false false true c x y z = absurd (cc)
all_false false false true x y z = absurd (cc)

-- a character that isn't white space, a sign or a quote belongs to a word
pub in_word : (c : ℕ) → is_whitespace c ≡ false → is_sign_character c ≡ false → is_quote c ≡ false → is_word_character c ≡ true
in_word c = all_false (is_whitespace c) (is_sign_character c) (is_quote c)

-- the text after a token is shorter than the text at the white space before it
pub token_smaller : {u v w : Place} {t : Token} → Longest is_whitespace u v → IsToken v t w → length w.text - w.at < length u.text - u.at
token_smaller white (a_word char passes longest) =
    left_smaller (ahead_run white.run) char (ahead_run (run_rest longest.run longest.stops char passes))
token_smaller white (a_sign char passes longest) =
    left_smaller (ahead_run white.run) char (ahead_run (run_rest longest.run longest.stops char passes))
token_smaller white (a_quoted_text opening quote inside closing) =
    left_smaller (ahead_run white.run) opening (ahead_then (ahead_run inside.run) (ahead_char closing))

-- the tokens so far, and those from the place `u` on, are the tokens from `start` on
pub record TokensSoFar (start : Place) (before : List Placed) (u : Place) : Type 0 where
  pub with_rest : (rest : Result (List Placed) ℕ) → AreTokens u rest → AreTokens start (with_prefix before rest)

no_prefix : (rest : Result (List Placed) ℕ) → rest ≡ with_prefix [] rest
no_prefix (Ok tokens) = refl
no_prefix (Err at) = refl

more_prefix : (before : List Placed) (placed : Placed) (rest : Result (List Placed) ℕ)
    → with_prefix before (with_prefix (placed ∷ []) rest) ≡ with_prefix (before ++ placed ∷ []) rest
more_prefix before placed (Ok tokens) = ap (λ l. Ok l) (sym (append_assoc before (placed ∷ []) tokens))
more_prefix before placed (Err at) = refl

pub tokens_begin : (start : Place) → TokensSoFar start [] start
tokens_begin start = record { with_rest = λ rest are. subst (λ r. AreTokens start r) (no_prefix rest) are }

pub tokens_more : {start u w : Place} (before : List Placed) (placed : Placed) → TokensSoFar start before u → IsNextToken u (Some placed) w
    → TokensSoFar start (before ++ placed ∷ []) w
tokens_more {start} {u} {w} before placed so (v, white, at, token) = record {
  with_rest = λ rest are.
      let here : placed ≡ record { token = placed.token; at = v.at } = ap (λ n. record { token = placed.token; at = n }) at in
      let all = so.with_rest _ (tokens.next white token are) in
      subst (λ r. AreTokens start r) (more_prefix before placed rest)
      (subst (λ p. AreTokens start (with_prefix before (with_prefix (p ∷ []) rest))) (sym here) all);
}

pub tokens_end : {start u : Place} (w : Place) (before : List Placed) → TokensSoFar start before u
    → IsNextToken u None w → AreTokens start (Ok before)
tokens_end {start} w before so (v, white, end) =
    subst (λ l. AreTokens start (Ok l)) (append-nil before) (so.with_rest (Ok []) (tokens.none white end))

pub tokens_unclosed : {start u v : Place} (before : List Placed) → TokensSoFar start before u → Longest is_whitespace u v → IsUnclosed v
    → AreTokens start (Err v.at)
tokens_unclosed before so white quote = so.with_rest (Err _) (tokens.unclosed white quote)

-- the error of a token is that of the text
pub tokens_refused : {start u : Place} (before : List Placed) (e : SelectionError) → TokensSoFar start before u → IsTokenError u e
    → IsTokensError start e
tokens_refused {start} before e so (v, white, quote, is) =
    subst (λ e. IsTokensError start e) (sym is) (refl, tokens_unclosed before so white quote)

-- each token shortens the text that is left
pub next_smaller : {u w : Place} (placed : Placed) → IsNextToken u (Some placed) w → length w.text - w.at < length u.text - u.at
next_smaller placed (v, white, at, token) = token_smaller white token
