-- A line feed after a text of printed tokens doesn't change its tokens.
use Rattle.std.proofs.Common.{◌≡◌, ℕ, Bool, true, false, cond, ◌&&◌, List, [], ◌∷◌, ◌++◌, map, refl, sym, ap, ap₂, ◌∙◌, append_assoc, append-nil, inl, inr}
use Rattle.json.specs.Token.{Token, begin_object, end_object, begin_array, end_array, key, string, number, boolean, null, bad}
use Rattle.json.specs.Word.{ends_word, word}
use Rattle.json.specs.Lex.{Lexeme, token, comma, colon, string_token, lex, between, fresh, punctuate, tokens}
use Rattle.json.specs.Print.{escape, quoted, token_text, begins, ends, separator, IsPrintable, ArePrintable}
use Rattle.json.specs.Spaced.{IsGap, AreGaps, print_spaced}
use Rattle.json.proofs.Printed.Numbers.{lex-number, in_word-ended}
use Rattle.json.proofs.Printed.Strings.{content-escape, lex-escape}

abbrev token_lexemes : Token → List Lexeme
token_lexemes begin_object = token begin_object ∷ []
token_lexemes end_object = token end_object ∷ []
token_lexemes begin_array = token begin_array ∷ []
token_lexemes end_array = token end_array ∷ []
token_lexemes (key s) = token (string s) ∷ colon ∷ []
token_lexemes (string s) = token (string s) ∷ []
token_lexemes (number s) = token (number s) ∷ []
token_lexemes (boolean b) = token (boolean b) ∷ []
token_lexemes null = token null ∷ []
token_lexemes bad = []

abbrev lexemes : Bool → List Token → List Lexeme
lexemes ended [] = []
lexemes ended (t ∷ ts) = cond (ended && begins t) (comma ∷ []) [] ++ (token_lexemes t ++ lexemes (ends t) ts)

quoted_lexemes : (s r : List ℕ) → lex between (quoted s ++ r) ≡ token (string s) ∷ lex between r
unfolding lex
quoted_lexemes s r =
    ap (λ l. lex between (34 ∷ l)) (append_assoc (escape s) (34 ∷ []) r)
    ∙ ap₂ (λ o l. token (string_token o) ∷ l) (content-escape s r) (lex-escape s r)

text_lexemes : (t : Token) (r : List ℕ) → IsPrintable t → (ends t ≡ true → ends_word r ≡ true)
    → lex between (token_text t ++ r) ≡ token_lexemes t ++ lex between r
unfolding lex word
text_lexemes begin_object r h ended = refl
text_lexemes end_object r h ended = refl
text_lexemes begin_array r h ended = refl
text_lexemes end_array r h ended = refl
text_lexemes (key s) r h ended = ap (lex between) (append_assoc (quoted s) (58 ∷ []) r) ∙ quoted_lexemes s (58 ∷ r)
text_lexemes (string s) r h ended = quoted_lexemes s r
text_lexemes (number s) r h ended = lex-number s r h (ended refl)
text_lexemes (boolean true) r h ended = ap₂ (λ b l. token (cond b (boolean true) bad) ∷ l) (ended refl) (in_word-ended r (ended refl))
text_lexemes (boolean false) r h ended = ap₂ (λ b l. token (cond b (boolean false) bad) ∷ l) (ended refl) (in_word-ended r (ended refl))
text_lexemes null r h ended = ap₂ (λ b l. token (cond b null bad) ∷ l) (ended refl) (in_word-ended r (ended refl))
text_lexemes bad r h ended = absurd h

separator_lexemes : (b : Bool) (r : List ℕ) → lex between (cond b (44 ∷ []) [] ++ r) ≡ cond b (comma ∷ []) [] ++ lex between r
unfolding lex
separator_lexemes true r = refl
separator_lexemes false r = refl

gap_lexemes : (g r : List ℕ) → IsGap g → lex between (g ++ r) ≡ lex between r
unfolding lex
gap_lexemes [] r h = refl
gap_lexemes (x ∷ g) r (inl e, h) = rw e (gap_lexemes g r h)
gap_lexemes (x ∷ g) r (inr e, h) = rw e (gap_lexemes g r h)

gap_ends : (g r : List ℕ) → IsGap g → ends_word r ≡ true → ends_word (g ++ r) ≡ true
gap_ends [] r h e = e
gap_ends (x ∷ g) r (inl is, h) e = rw is
gap_ends (x ∷ g) r (inr is, h) e = rw is

-- if `tail` doesn't continue a word, nor does the text after a value: it begins with white space, a comma or a bracket, or it is `tail`
spaced_ends : (ps : List (List ℕ × Token)) (tail : List ℕ) → AreGaps ps → ends_word tail ≡ true
    → ends_word (print_spaced true ps ++ tail) ≡ true
unfolding print_spaced
spaced_ends [] tail h e = e
spaced_ends ((g, begin_object) ∷ ps) tail h e = refl
spaced_ends ((g, end_object) ∷ ps) tail h e = ap ends_word (append_assoc g _ tail) ∙ gap_ends g _ h.0 refl
spaced_ends ((g, begin_array) ∷ ps) tail h e = refl
spaced_ends ((g, end_array) ∷ ps) tail h e = ap ends_word (append_assoc g _ tail) ∙ gap_ends g _ h.0 refl
spaced_ends ((g, key s) ∷ ps) tail h e = refl
spaced_ends ((g, string s) ∷ ps) tail h e = refl
spaced_ends ((g, number s) ∷ ps) tail h e = refl
spaced_ends ((g, boolean b) ∷ ps) tail h e = refl
spaced_ends ((g, null) ∷ ps) tail h e = refl
spaced_ends ((g, bad) ∷ ps) tail h e = refl

regrouped : (a b c d tail : List ℕ) → (a ++ (b ++ (c ++ d))) ++ tail ≡ a ++ (b ++ (c ++ (d ++ tail)))
regrouped a b c d tail = simp append_assoc

spaced_lexemes : (ended : Bool) (ps : List (List ℕ × Token)) (tail : List ℕ) → AreGaps ps → IsGap tail
    → ends_word tail ≡ true → ArePrintable (map (λ p. p.1) ps)
    → lex between (print_spaced ended ps ++ tail) ≡ lexemes ended (map (λ p. p.1) ps)
unfolding lex print_spaced ArePrintable
spaced_lexemes ended [] tail gaps last e h = ap (lex between) (sym (append-nil tail)) ∙ gap_lexemes tail [] last
spaced_lexemes ended (p ∷ ps) tail gaps last e h =
    let t = p.1 in
    let rest = print_spaced (ends t) ps in
    ap (lex between) (regrouped (separator ended t) p.0 (token_text t) rest tail) ∙ separator_lexemes (ended && begins t) _
    ∙ ap (λ l. cond (ended && begins t) (comma ∷ []) [] ++ l)
    (gap_lexemes p.0 (token_text t ++ (rest ++ tail)) gaps.0
    ∙ text_lexemes t (rest ++ tail) h.0
    (λ ends_value. ap (λ b. ends_word (print_spaced b ps ++ tail)) ends_value ∙ spaced_ends ps tail gaps.1 e)
    ∙ ap (λ l. token_lexemes t ++ l) (spaced_lexemes (ends t) ps tail gaps.1 last e h.1))

-- a text of printed tokens has the same tokens with a line feed after it
pub with_line_feed : (ps : List (List ℕ × Token)) → AreGaps ps → ArePrintable (map (λ p. p.1) ps)
    → tokens (print_spaced false ps ++ 10 ∷ []) ≡ tokens (print_spaced false ps)
with_line_feed ps gaps h =
    ap (punctuate fresh)
    (spaced_lexemes false ps (10 ∷ []) gaps (inr refl, tt) refl h ∙ sym (spaced_lexemes false ps [] gaps tt refl h)
    ∙ ap (lex between) (append-nil (print_spaced false ps)))
