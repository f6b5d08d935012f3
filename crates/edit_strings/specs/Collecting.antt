-- Machinery: words of private contracts.
-- Texts, their counts and taken names, in the types of the code.
use Rattle.std.specs.Prelude.{◌≡◌, ℕ, ◌<◌, ◌≤◌, ◌||◌, ◌&&◌, Bool, true, false, List, [], ◌∷◌, ◌++◌, Option, None, Some, String, bytes_eq, cond, count_by, encode_utf8, map, not}
use Rattle.std.specs.Borrow.{Bor}
use Rattle.std.specs.BTreeMap.{BTreeMap, get_by, get_by_text}
use Rattle.std.specs.BTreeSet.{contains_text}
use Rattle.std.specs.Char.{is_ascii_alphabetic, is_ascii_digit, is_ascii_lowercase, is_whitespace, to_ascii_lowercase}
use Rattle.std.specs.Str.{str_to_ascii_lowercase}
use Rattle.std.specs.Cmp.Lexicographic.{slice_cmp}
use Rattle.std.specs.List.{list_all}
use Rattle.std.specs.Option.{option_map, option_map_or}
use Rattle.std.specs.Ordering.{nat_cmp}
use Rattle.std.specs.Global.{Global}
use Rattle.std.specs.String.{string_bytes}
use Rattle.bib_syntax.specs.Grammar.{is_word}
use Rattle.bib_syntax.specs.Reading.{FieldReading}
use Rattle.edit_entries.specs.Documents.{has_name}
use Rattle.edit_strings.specs.Collected.{is_month, letters_or_s, name_letters, named_text, number_after, text_value}
use Rattle.edit_strings.specs.Exchanged.{Exchange}
use Rattle.edit_strings.specs.Expanded.{Index}
use Rattle.edit_strings.specs.declared.taken.Taken.{Taken}

-- the count that a map has for a text, and 0 for a text that isn't in it
abbrev pub count_in : BTreeMap (Bor (List ℕ)) ℕ → List ℕ → ℕ
count_in counts text = option_map_or (λ n. n) (get_by (λ k. slice_cmp nat_cmp text k.now) counts) 0

-- whether a name, which is in ASCII lowercase, is taken
abbrev pub has_lowercase : Taken → List ℕ → Bool
has_lowercase taken lowercase = contains_text taken.names lowercase

-- whether a name is taken, in any ASCII case
abbrev pub is_taken : Taken → List ℕ → Bool
is_taken taken name = has_lowercase taken (str_to_ascii_lowercase name)

-- whether a byte is a lowercase ASCII letter or a digit
abbrev pub is_plain_byte : ℕ → Bool
is_plain_byte b = is_ascii_lowercase b || is_ascii_digit b

-- whether a name is a lowercase ASCII letter followed by lowercase ASCII letters and digits only
abbrev pub is_plain_name : List ℕ → Bool
is_plain_name [] = false
is_plain_name (b ∷ bs) = is_ascii_lowercase b && list_all is_plain_byte bs

-- the replacement of values of fields with some names by the name at the index of their text
abbrev pub collection_by : List (List ℕ) → Index → List (List ℕ) → Exchange
collection_by fields index names f = text_value index names (named_text fields f)

-- the bytes of each of some strings
abbrev pub string_texts : List (String Global) → List (List ℕ)
string_texts names = map string_bytes names

-- ---- definitions that can be reused

-- the count that a map has for a name in ASCII lowercase, and 0 for a name that isn't in it
abbrev pub name_count_in : BTreeMap (String Global) ℕ → List ℕ → ℕ
name_count_in counts lowercase = option_map_or (λ n. n) (get_by_text counts lowercase) 0

-- a map has the number of definitions of each name, in any ASCII case
abbrev pub AreNameCounts : BTreeMap (String Global) ℕ → List FieldReading → Type 0
AreNameCounts counts definitions =
    (name : List ℕ) → name_count_in counts (str_to_ascii_lowercase name) ≡ count_by (has_name name) definitions

-- the name that a map has for a text
abbrev pub known_in : BTreeMap (Bor (List ℕ)) (Bor (List ℕ)) → List ℕ → Option (List ℕ)
known_in known text = option_map (λ n. n.now) (get_by (λ k. slice_cmp nat_cmp text k.now) known)

-- the name for a text after one more definition; `own` is the text for which that definition can be reused, if there is one
abbrev pub learned : Option (List ℕ) → Option (List ℕ) → FieldReading → List ℕ → Option (List ℕ)
learned (Some name) own f text = Some name
learned None None f text = None
learned None (Some own) f text = cond (bytes_eq own text) (Some f.name.text) None

-- ---- new names

-- whether the current word has had an ASCII letter up to a character, which is included; white space ends a word
abbrev pub met_after : Bool → ℕ → Bool
met_after met c = not (is_whitespace c) && (met || is_ascii_alphabetic c)

-- a character in lowercase if it is the first ASCII letter of its word, and nothing otherwise
abbrev pub letter_at : Bool → ℕ → List ℕ
letter_at met c = cond (not met && is_ascii_alphabetic c) (encode_utf8 (to_ascii_lowercase c)) []

-- whether a name can't be a new one: it is a month's abbreviation, or is taken
abbrev pub is_used : Taken → List ℕ → Bool
is_used taken name = is_month name || is_taken taken name

-- each number from 1 on below this one makes a name that is used
abbrev pub AreUsedBelow : Taken → List ℕ → ℕ → Type 0
AreUsedBelow taken base number = (n : ℕ) → 1 ≤ n → n < number → is_used taken (base ++ number_after n) ≡ true

-- `name` is a plain name, and is `base` with the least number that makes it unused
pub record IsLeastFree (taken : Taken) (base : List ℕ) (number : ℕ) (name : List ℕ) : Type 0 where
  pub plain : is_plain_name name ≡ true
  pub some : 1 ≤ number
  pub is : name ≡ base ++ number_after number
  pub new : is_used taken name ≡ false
  pub first : AreUsedBelow taken base number

-- the number that a map has for the start of a name is at least 1. Each smaller number from 1 on makes a name that is used
abbrev pub AreBelowUsed : Taken → BTreeMap (String Global) ℕ → Type 0
AreBelowUsed taken numbers =
    (base : List ℕ) (number : ℕ) → get_by_text numbers base ≡ Some number → (1 ≤ number) × AreUsedBelow taken base number

-- a text gets its first new name, which is taken then
pub record TakesName (old new : Taken) (numbers : BTreeMap (String Global) ℕ) (text name : List ℕ) : Type 0 where
  pub number : ℕ
  pub free : IsLeastFree old (letters_or_s (name_letters text)) number name
  pub others : (other : List ℕ) → is_taken new other ≡ (is_word name other || is_taken old other)
  pub closed : AreBelowUsed new numbers

-- the same names are taken, and each number below a known one makes a name that is used
pub record StaysTaken (old new : Taken) (numbers : BTreeMap (String Global) ℕ) : Type 0 where
  pub others : (other : List ℕ) → is_taken new other ≡ is_taken old other
  pub closed : AreBelowUsed new numbers

-- a text gets its known name, or else its first new name, which is taken then
abbrev pub GetsName : Taken → Taken → BTreeMap (String Global) ℕ → Option (List ℕ) → List ℕ → List ℕ → Type 0
GetsName old new numbers (Some known) text name = (name ≡ known) × StaysTaken old new numbers
GetsName old new numbers None text name = TakesName old new numbers text name
