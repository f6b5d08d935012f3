-- Meaning: words of public contracts.
-- New keys of entries: each differs from those before it, in any ASCII case.
use Rattle.std.specs.Prelude.{◌≡◌, ℕ, ◌+◌, ◌*◌, ◌<◌, Bool, true, false, List, [], ◌∷◌, ◌++◌}
use Rattle.std.specs.List.{AllPairs, list_any}
use Rattle.std.specs.Str.{str_eq_ignore_ascii_case}
use Rattle.bib_text.specs.Characters as char
use Rattle.bib_entry.specs.declared.entry.Entry.{Entry}
use Rattle.bib_keys.specs.Bases.{pattern_text}
use Rattle.bib_keys.specs.declared.pattern.Part.{Part}

-- the suffixes by their numbers: the empty one has the number 0, `a` 1, `z` 26, `aa` 27
pub data IsSuffix : ℕ → List ℕ → Type 0 where
  none : IsSuffix 0 []
  more : {n : ℕ} {letters : List ℕ} → (k : ℕ) → k < 26 → IsSuffix n letters
      → IsSuffix (26 * n + k + 1) (letters ++ ((char.letter_a + k) ∷ []))

-- whether one of these keys is `key`, in any ASCII case
abbrev pub has_same_key : List (List ℕ) → List ℕ → Bool
has_same_key keys key = list_any (λ own. str_eq_ignore_ascii_case own key) keys

-- a key is this text with the suffix of this number
pub record HasSuffix (number : ℕ) (text key : List ℕ) : Type 0 where
  pub suffix : List ℕ
  pub numbered : IsSuffix number suffix
  pub is : key ≡ text ++ suffix

-- a key is this text with the first suffix that gives none of these keys
pub record IsFirstNew (keys : List (List ℕ)) (text key : List ℕ) : Type 0 where
  pub number : ℕ
  pub suffixed : HasSuffix number text key
  pub new : has_same_key keys key ≡ false
  pub first : (n : ℕ) (other : List ℕ) → n < number → HasSuffix n text other → has_same_key keys other ≡ true

-- the keys that a pattern gives for entries, in their order
pub data AreKeys (pattern : List Part) : List Entry → List (List ℕ) → Type 0 where
  none : AreKeys pattern [] []
  next : {entries : List Entry} {keys : List (List ℕ)} {key : List ℕ} (entry : Entry) → AreKeys pattern entries keys
      → IsFirstNew keys (pattern_text pattern entry) key → AreKeys pattern (entries ++ (entry ∷ [])) (keys ++ (key ∷ []))

-- no two keys are the same in any ASCII case
abbrev pub AreDistinct : List (List ℕ) → Type 0
AreDistinct keys = AllPairs (λ key other. str_eq_ignore_ascii_case key other ≡ false) keys

-- an entry with an empty key, to compare entries that may have different keys
abbrev pub without_key : Entry → Entry
without_key entry = record entry { key = [] }
