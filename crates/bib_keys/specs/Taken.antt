-- Machinery: words of private contracts.
-- The keys that are taken, as a map from their texts in ASCII lower case to numbers. All suffixes with smaller numbers are taken too.
use Rattle.std.specs.Prelude.{◌≡◌, ℕ, ◌<◌, Bool, true, false, ◌||◌, if◌then◌else◌, List, bytes_eq, Option, Some, is_some}
use Rattle.std.specs.Str.{str_eq_ignore_ascii_case, str_to_ascii_lowercase}
use Rattle.bib_keys.specs.Keys.{HasSuffix}

-- the number of each name in the map; the names are keys in ASCII lower case
abbrev pub Numbers : Type 0
Numbers = List ℕ → Option ℕ

-- whether a key is taken, in any ASCII case
abbrev pub is_key_taken : Numbers → List ℕ → Bool
is_key_taken taken key = is_some (taken (str_to_ascii_lowercase key))

-- the number of a name is set, and no other changes
abbrev pub SetsNumber : Numbers → Numbers → List ℕ → ℕ → Type 0
SetsNumber old new name number = (q : List ℕ) → new q ≡ (if bytes_eq name q then Some number else old q)

-- the text with each suffix whose number is smaller than `number` is taken
abbrev pub AreTakenBelow : Numbers → List ℕ → ℕ → Type 0
AreTakenBelow taken text number =
    (n : ℕ) (other : List ℕ) → n < number → HasSuffix n text other → is_key_taken taken other ≡ true

-- for each name in the map, the suffixes with smaller numbers are taken
pub record AreBelowTaken (taken : Numbers) : Type 0 where
  pub below : (number : ℕ) (text : List ℕ) → taken (str_to_ascii_lowercase text) ≡ Some number → AreTakenBelow taken text number

-- a key is the text with the first suffix that gives a new key, and this is the number of the suffix
pub record IsFirstFree (taken : Numbers) (text : List ℕ) (number : ℕ) (key : List ℕ) : Type 0 where
  pub suffixed : HasSuffix number text key
  pub new : is_key_taken taken key ≡ false
  pub first : AreTakenBelow taken text number

-- a text gets the first new key; afterwards, only this key is taken in addition
pub record TakesKey (old new : Numbers) (text key : List ℕ) : Type 0 where
  pub number : ℕ
  pub free : IsFirstFree old text number key
  pub others : (other : List ℕ) → is_key_taken new other ≡ (str_eq_ignore_ascii_case key other || is_key_taken old other)
  pub closed : AreBelowTaken new
