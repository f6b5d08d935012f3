-- A text is cut into tokens in one way.
use Rattle.std.proofs.Common.{◌≡◌, ℕ, Bool, true, false, List, [], ◌∷◌, refl, sym, ap, subst, ◌∙◌, ◌⊎◌, inl, inr, ⊎_elim}
use Rattle.std.specs.Prelude.{◌==◌, not, ◌&&◌, ◌||◌, Result, Err}
use Rattle.std.specs.Char.{is_whitespace}
use Rattle.std.proofs.lemmas.Bool.{eqb-true}
use Rattle.bib_text.specs.Places.{Place, CharAt, Longest, AtEnd, between}
use Rattle.bib_text.specs.Characters as char
use Rattle.bib_text.proofs.PlaceFacts.{same_char, no_char_at_end, longest_same}
use Rattle.bib_select.specs.Tokens.{Token, Placed, AreTokens, IsToken, IsUnclosed, is_quote, is_sign_character, is_word_character, with_prefix}
use Rattle.bib_select.specs.Tokens.Token.{word, quoted, sign}
use Rattle.bib_select.specs.Tokens.IsToken.{a_word, a_sign, a_quoted_text}
use Rattle.bib_select.specs.Tokens.IsUnclosed.{unclosed}
use Rattle.bib_select.specs.Tokens.{AreTokens as tokens}

-- ---- a character begins one kind of token

word_no_sign : (c : ℕ) → is_word_character c ≡ true → is_sign_character c ≡ true → ⊥
word_no_sign c = cases (is_whitespace c) (is_sign_character c) (is_quote c)
  where
    cases : (w s q : Bool) → (not w && not s && not q) ≡ true → s ≡ true → ⊥
    cases true true q is one = cc
    cases false true q is one = cc
    cases w false q is one = cc

word_no_quote : (c : ℕ) → is_word_character c ≡ true → is_quote c ≡ true → ⊥
word_no_quote c = cases (is_whitespace c) (is_sign_character c) (is_quote c)
  where
    cases : (w s q : Bool) → (not w && not s && not q) ≡ true → q ≡ true → ⊥
    cases true s true is one = cc
    cases false true true is one = cc
    cases false false true is one = cc
    cases w s false is one = cc

which_quote : (c : ℕ) → is_quote c ≡ true → (c ≡ char.quote) ⊎ (c ≡ char.apostrophe)
which_quote c = cases (c == char.quote) (c == char.apostrophe) refl refl
  where
    cases : (a b : Bool) → (c == char.quote) ≡ a → (c == char.apostrophe) ≡ b → (a || b) ≡ true → (c ≡ char.quote) ⊎ (c ≡ char.apostrophe)
    cases true b is other one = inl (eqb-true c char.quote is)
    cases false true is other one = inr (eqb-true c char.apostrophe other)
    cases false false is other one = absurd (cc)

sign_no_quote : (c : ℕ) → is_sign_character c ≡ true → is_quote c ≡ true → ⊥
sign_no_quote c is_sign quote =
    ⊎_elim (λ is. no (subst (λ x. is_sign_character x ≡ true) is is_sign)) (λ is. no (subst (λ x. is_sign_character x ≡ true) is is_sign))
    (which_quote c quote)
  where
    no : false ≡ true → ⊥
    no is = cc

-- if two classes have no character in common, the character at a place isn't in both
clash : {p q : ℕ → Bool} {u v w : Place} {c d : ℕ} → ((x : ℕ) → p x ≡ true → q x ≡ true → ⊥) → CharAt u c v → p c ≡ true → CharAt u d w
    → q d ≡ true → ⊥
clash {q = q} {c = c} differ first is second other = differ c is (subst (λ x. q x ≡ true) (sym (same_char first second).0) other)

-- ---- one token

-- two texts in quotes from one place are the same
quotes_same : {u v w x v' w' x' : Place} {q q' : ℕ} → CharAt u q v → Longest (λ c. not (c == q)) v w → CharAt w q x → CharAt u q' v'
    → Longest (λ c. not (c == q')) v' w' → CharAt w' q' x' → (quoted (between v w) ≡ quoted (between v' w')) × (x ≡ x')
quotes_same {v = v} {w = w} {v' = v'} {w' = w'} {x' = x'} {q = q} {q' = q'} open' inside close' opens insides closes =
    let same = same_char open' opens in
    let again : Longest (λ c. not (c == q)) v w' =
    subst (λ p. Longest (λ c. not (c == q)) p w') (sym same.1) (subst (λ k. Longest (λ c. not (c == k)) v' w') (sym same.0) insides) in
    let ends : w ≡ w' = longest_same inside again in (
      ap (λ p. quoted (between p w)) same.1 ∙ ap (λ p. quoted (between v' p)) ends,
      (same_char close' (subst (λ p. CharAt p q' x') (sym ends) closes)).1,
    )

-- two longest runs that pass one test from one place on give the same token, and end at the same place
run_same : {test : ℕ → Bool} {u v w : Place} (token : List ℕ → Token) → Longest test u v → Longest test u w
    → (token (between u v) ≡ token (between u w)) × (v ≡ w)
run_same {u = u} token first second = (ap (λ p. token (between u p)) (longest_same first second), longest_same first second)

one_token : {u v w : Place} {t s : Token} → IsToken u t v → IsToken u s w → (t ≡ s) × (v ≡ w)
one_token (a_word char is run) (a_word char' is' run') = run_same word run run'
one_token (a_word char is run) (a_sign char' is' run') = absurd (clash word_no_sign char is char' is')
one_token (a_word char is run) (a_quoted_text char' is' inside closing) = absurd (clash word_no_quote char is char' is')
one_token (a_sign char is run) (a_word char' is' run') = absurd (clash word_no_sign char' is' char is)
one_token (a_sign char is run) (a_sign char' is' run') = run_same sign run run'
one_token (a_sign char is run) (a_quoted_text char' is' inside closing) = absurd (clash sign_no_quote char is char' is')
one_token (a_quoted_text char is inside closing) (a_word char' is' run') = absurd (clash word_no_quote char' is' char is)
one_token (a_quoted_text char is inside closing) (a_sign char' is' run') = absurd (clash sign_no_quote char' is' char is)
one_token (a_quoted_text char is inside closing) (a_quoted_text char' is' inside' closing') =
    quotes_same char inside closing char' inside' closing'

-- a quote that isn't closed is no token
no_token : {u v : Place} {t : Token} → IsUnclosed u → IsToken u t v → ⊥
no_token (unclosed char is inside end) (a_word char' is' run') = clash word_no_quote char' is' char is
no_token (unclosed char is inside end) (a_sign char' is' run') = clash sign_no_quote char' is' char is
no_token (unclosed {v = v} {w = w} {q = q} char is inside end) (a_quoted_text {v = v'} {w = w'} {q = q'} char' is' inside' closing') =
    let same = same_char char char' in
    let again : Longest (λ c. not (c == q)) v w' =
    subst (λ p. Longest (λ c. not (c == q)) p w') (sym same.1) (subst (λ k. Longest (λ c. not (c == k)) v' w') (sym same.0) inside') in
    no_char_at_end (subst AtEnd (longest_same inside again) end) closing'

-- no token is at the end of a text; nor is an unclosed quote, by the next lemma
token_no_end : {u v : Place} {t : Token} → AtEnd u → IsToken u t v → ⊥
token_no_end end (a_word char is run) = no_char_at_end end char
token_no_end end (a_sign char is run) = no_char_at_end end char
token_no_end end (a_quoted_text char is inside closing) = no_char_at_end end char

quote_no_end : {u : Place} → AtEnd u → IsUnclosed u → ⊥
quote_no_end end (unclosed char is inside at_end) = no_char_at_end end char

-- ---- one list of tokens

-- the place after the longest run of white space is unique
after_white : {u v w : Place} (P : Place → Type 0) → Longest is_whitespace u v → Longest is_whitespace u w → P w → P v
after_white P first second holds = subst P (longest_same second first) holds

pub one_cut : {u : Place} {a b : Result (List Placed) ℕ} → AreTokens u a → AreTokens u b → a ≡ b
one_cut (tokens.none white end) (tokens.none white' end') = refl
one_cut (tokens.none white end) (tokens.next white' token rest) =
    absurd (token_no_end (after_white AtEnd white' white end) token)
one_cut (tokens.none white end) (tokens.unclosed white' quote) = absurd (quote_no_end (after_white AtEnd white' white end) quote)
one_cut (tokens.next white token rest) (tokens.none white' end) = absurd (token_no_end (after_white AtEnd white white' end) token)
one_cut (tokens.next {v = v} {w = w} {t = t} {rest = r} white token rest)
    (tokens.next {v = v'} {w = w'} {t = t'} {rest = r'} white' token' rest') =
    let here : v ≡ v' = longest_same white white' in
    let same : (t ≡ t') × (w ≡ w') = one_token token (subst (λ p. IsToken p t' w') (sym here) token') in
    let more : r ≡ r' = one_cut rest (subst (λ p. AreTokens p r') (sym same.1) rest') in
    ap (λ x. with_prefix (record { token = t; at = v.at } ∷ []) x) more
    ∙ ap (λ x. with_prefix (record { token = x; at = v.at } ∷ []) r') same.0
    ∙ ap (λ p. with_prefix (record { token = t'; at = p.at } ∷ []) r') here
one_cut (tokens.next {w = w} {t = t} white token rest) (tokens.unclosed white' quote) =
    absurd (no_token quote (after_white (λ p. IsToken p t w) white' white token))
one_cut (tokens.unclosed white quote) (tokens.none white' end) = absurd (quote_no_end (after_white AtEnd white white' end) quote)
one_cut (tokens.unclosed white quote) (tokens.next {w = w} {t = t} white' token rest) =
    absurd (no_token quote (after_white (λ p. IsToken p t w) white white' token))
one_cut (tokens.unclosed white quote) (tokens.unclosed white' quote') = ap (λ p. Err p.at) (longest_same white white')
