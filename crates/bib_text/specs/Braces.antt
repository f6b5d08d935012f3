-- Meaning: words of public contracts.
-- Texts with balanced braces, such as the text between two braces in a file. A backslash escapes the character after it.
-- Each brace that isn't escaped belongs to a pair of an opening and a closing brace.
use Rattle.std.specs.Prelude.{◌≡◌, ℕ, suc, ◌-◌, Bool, true, false, not, ◌&&◌, ◌==◌, List, [], ◌∷◌, cond, length, nat_lt}
use Rattle.bib_text.specs.Places.{Place, CharAt, place}
use Rattle.bib_text.specs.Characters as char

-- whether `c` is neither a brace nor a backslash
abbrev pub is_plain : ℕ → Bool
is_plain c = not (c == char.open_brace) && not (c == char.close_brace) && not (c == char.backslash)

-- The text between two places is zero or more parts of a braced text. A part is a plain character, a backslash and any
-- character, or a pair of braces around parts.
pub data Parts : Place → Place → Type 0 where
  none : {u : Place} → Parts u u
  plain : {u v w : Place} {c : ℕ} → CharAt u c v → is_plain c ≡ true → Parts v w → Parts u w
  hidden : {u v w x : Place} {c : ℕ} → CharAt u char.backslash v → CharAt v c w → Parts w x → Parts u x
  nested : {u v w x y : Place} → CharAt u char.open_brace v → Parts v w → CharAt w char.close_brace x → Parts x y → Parts u y

-- the whole of `text` is zero or more parts of a braced text
abbrev pub IsParts : List ℕ → Type 0
IsParts text = Parts (place text 0) (place text (length text))

-- whether bytes close this number of open braces and all braces that they open. An unescaped backslash escapes the next byte, and
-- may not be the last byte. `is_hidden` says whether the first byte is escaped
abbrev pub close_braces : Bool → ℕ → List ℕ → Bool
close_braces is_hidden depth [] = not is_hidden && depth == 0
close_braces true depth (b ∷ bs) = close_braces false depth bs
close_braces false depth (b ∷ bs) =
    cond (b == char.backslash) (close_braces true depth bs)
    (cond (b == char.open_brace) (close_braces false (suc depth) bs)
    (cond (b == char.close_brace) (nat_lt 0 depth && close_braces false (depth - 1) bs) (close_braces false depth bs)))

-- whether the unescaped braces of a text are balanced and no unescaped backslash ends it. This is a test for `IsParts`
abbrev pub has_balanced_braces : List ℕ → Bool
has_balanced_braces text = close_braces false 0 text
