-- Meaning: words of public contracts.
-- The tokens of a condition: words, texts between quotes, and signs. White space only separates them.
use Rattle.std.specs.Prelude.{◌≡◌, ℕ, Bool, true, not, ◌&&◌, ◌||◌, ◌==◌, List, [], ◌∷◌, ◌++◌, Result, Ok, Err}
use Rattle.std.specs.Char.{is_whitespace}
use Rattle.bib_text.specs.Places.{Place, CharAt, Longest, AtEnd, between}
use Rattle.bib_text.specs.Characters as char

-- a token: a word, the text between two quotes, or a run of signs
pub data Token : Type 0 where
  word : List ℕ → Token
  quoted : List ℕ → Token
  sign : List ℕ → Token

-- a token and the byte offset at which it begins
pub record Placed : Type 0 where
  pub token : Token
  pub at : ℕ

-- the code point of the exclamation mark
abbrev pub exclamation : ℕ
exclamation = 33

-- the characters of signs; parentheses have no meaning in a condition, so a text with parentheses needs quotes
abbrev pub is_sign_character : ℕ → Bool
is_sign_character c =
    (c == char.equals) || (c == exclamation) || (c == char.tilde) || (c == char.less) || (c == char.greater)
    || (c == char.open_parenthesis) || (c == char.close_parenthesis)

-- the quotes that can be around a text
abbrev pub is_quote : ℕ → Bool
is_quote c = (c == char.quote) || (c == char.apostrophe)

-- the characters of words: all except white space, signs and quotes
abbrev pub is_word_character : ℕ → Bool
is_word_character c = not (is_whitespace c) && not (is_sign_character c) && not (is_quote c)

-- the token between two places. A word and a run of signs are as long as possible. The text between two equal quotes can contain
-- any other character
pub data IsToken : Place → Token → Place → Type 0 where
  a_word : {u v w : Place} {c : ℕ} → CharAt u c w → is_word_character c ≡ true → Longest is_word_character u v
      → IsToken u (word (between u v)) v
  a_sign : {u v w : Place} {c : ℕ} → CharAt u c w → is_sign_character c ≡ true → Longest is_sign_character u v
      → IsToken u (sign (between u v)) v
  a_quoted_text : {u v w x : Place} {q : ℕ} → CharAt u q v → is_quote q ≡ true → Longest (λ c. not (c == q)) v w → CharAt w q x
      → IsToken u (quoted (between v w)) x

-- a quote is at this place, and the same quote doesn't occur after it
pub data IsUnclosed : Place → Type 0 where
  unclosed : {u v w : Place} {q : ℕ} → CharAt u q v → is_quote q ≡ true → Longest (λ c. not (c == q)) v w → AtEnd w → IsUnclosed u

-- a result with these elements before its list; an error stays the same
abbrev pub with_prefix : {A E : Type 0} → List A → Result (List A) E → Result (List A) E
with_prefix first (Ok rest) = Ok (first ++ rest)
with_prefix first (Err e) = Err e

-- the tokens of the text from a place on, with any white space between them; or the offset of a quote that isn't closed
pub data AreTokens : Place → Result (List Placed) ℕ → Type 0 where
  none : {u v : Place} → Longest is_whitespace u v → AtEnd v → AreTokens u (Ok [])
  next : {u v w : Place} {t : Token} {rest : Result (List Placed) ℕ} → Longest is_whitespace u v → IsToken v t w → AreTokens w rest
      → AreTokens u (with_prefix (record { token = t; at = v.at } ∷ []) rest)
  unclosed : {u v : Place} → Longest is_whitespace u v → IsUnclosed v → AreTokens u (Err v.at)
