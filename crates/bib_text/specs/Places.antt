-- Meaning: words of public contracts.
-- Places in a text, and the characters between them. A grammar rule relates two places, and consecutive rules share a
-- place. A text is a list of UTF-8 bytes, and a character is a code point.
use Rattle.std.specs.Prelude.{◌⊎◌, ◌≡◌, ℕ, ◌+◌, ◌-◌, Bool, true, false, List, ◌++◌, length, take, drop, encode_utf8}
use Rattle.std.specs.Char.{len_utf8}

-- a place: a text and an offset in it, in bytes from its start
pub record Place : Type 0 where
  pub text : List ℕ
  pub at : ℕ

-- the place with the offset `at` in `text`
abbrev pub place : List ℕ → ℕ → Place
place text at = record { text = text; at = at }

-- the character `c` is at `u`, and `v` is the place after it
pub record CharAt (u : Place) (c : ℕ) (v : Place) : Type 0 where
  pub same : v.text ≡ u.text
  pub here : drop u.at u.text ≡ encode_utf8 c ++ drop v.at u.text
  pub next : v.at ≡ u.at + len_utf8 c

-- each character between two places passes `test`
pub data Run (test : ℕ → Bool) : Place → Place → Type 0 where
  stop : {u : Place} → Run test u u
  step : {u v w : Place} {c : ℕ} → CharAt u c v → test c ≡ true → Run test v w → Run test u w

-- `Holds` is true of each character between two places
pub data AllBetween (Holds : ℕ → Type 0) : Place → Place → Type 0 where
  stop : {u : Place} → AllBetween Holds u u
  step : {u v w : Place} {c : ℕ} → AllBetween Holds u v → CharAt v c w → Holds c → AllBetween Holds u w

-- if a character is at `u`, it fails the test
abbrev pub Stops : (ℕ → Bool) → Place → Type 0
Stops test u = (c : ℕ) (v : Place) → CharAt u c v → test c ≡ false

-- the longest run from `u` ends at `v`: each character between them passes `test`, and none at `v` does
pub record Longest (test : ℕ → Bool) (u v : Place) : Type 0 where
  pub run : Run test u v
  pub stops : Stops test v

-- the place is the end of its text
abbrev pub AtEnd : Place → Type 0
AtEnd u = u.at ≡ length u.text

-- the place is the end of its text, or `Holds` is true of the character there
abbrev pub EndsOr : (ℕ → Type 0) → Place → Type 0
EndsOr Holds u = AtEnd u ⊎ ((c : ℕ) × (v : Place) × CharAt u c v × Holds c)

-- the bytes in the text of `u` from the offset of `u` to the offset of `v`
abbrev pub between : Place → Place → List ℕ
between u v = take (v.at - u.at) (drop u.at u.text)

-- a closure with the postcondition `post` returns the result of `test` for each character
abbrev pub Answers : (ℕ → Bool → Type 0) → (ℕ → Bool) → Type 0
Answers post test = (c : ℕ) (answer : Bool) → post c answer → answer ≡ test c
