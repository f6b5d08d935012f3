-- Meaning: words of public contracts.
-- People that parse from their written form.
use Rattle.std.specs.Prelude.{◌≡◌, ℕ, ◌<◌, nat_lt, ◌==◌, ◌&&◌, ◌||◌, not, Bool, true, false, List, [], ◌∷◌, ◌++◌, length, None}
use Rattle.std.specs.List.{list_all}
use Rattle.bib_chunks.specs.Cuts.{is_and}
use Rattle.bib_people.specs.declared.person.Person.{Person}
use Rattle.bib_text.specs.Characters as char

-- an ASCII uppercase letter
abbrev pub is_capital_letter : ℕ → Bool
is_capital_letter b = nat_lt 64 b && nat_lt b 91

-- an ASCII lowercase letter
abbrev pub is_small_letter : ℕ → Bool
is_small_letter b = nat_lt 96 b && nat_lt b 123

-- an ASCII letter, a point or a hyphen
abbrev pub is_name_byte : ℕ → Bool
is_name_byte b = is_capital_letter b || (is_small_letter b || (b == char.point || b == char.hyphen))

-- whether the first byte passes the test
abbrev pub name_begins : (ℕ → Bool) → List ℕ → Bool
name_begins test [] = false
name_begins test (b ∷ bs) = test b

-- whether a word is `and`, which separates people
abbrev pub is_word_and : List ℕ → Bool
is_word_and (a ∷ n ∷ d ∷ []) = is_and a n d
is_word_and word = false

-- a word of ASCII letters, points and hyphens that isn't `and` and whose first byte passes the test
abbrev pub is_kept_word : (ℕ → Bool) → List ℕ → Bool
is_kept_word test word = name_begins test word && (list_all is_name_byte word && not (is_word_and word))

-- words with a space before each
abbrev pub after_words : List (List ℕ) → List ℕ
after_words [] = []
after_words (word ∷ words) = char.space ∷ (word ++ after_words words)

-- words separated by single spaces
abbrev pub spaced : List (List ℕ) → List ℕ
spaced [] = []
spaced (word ∷ words) = word ++ after_words words

-- a text consists of words that meet `is_kept_word`, separated by single spaces
pub record AreWords (test : ℕ → Bool) (text : List ℕ) : Type 0 where
  pub words : List (List ℕ)
  pub kept : list_all (is_kept_word test) words ≡ true
  pub spell : text ≡ spaced words

-- a person that parses from its written form. Its four parts consist of words of ASCII letters, points and hyphens other
-- than `and`. Each word of the family name begins in upper case, and each word of the prefix in lower case. It has a family
-- name and a given name, and no optional part.
pub record IsKeptPerson (p : Person) : Type 0 where
  pub name : AreWords is_capital_letter p.name
  pub given_name : AreWords is_name_byte p.given_name
  pub prefix : AreWords is_small_letter p.prefix
  pub suffix : AreWords is_name_byte p.suffix
  pub has_name : 0 < length p.name
  pub has_given_name : 0 < length p.given_name
  pub no_id : p.id ≡ None
  pub no_prefix_initials : p.prefix_initials ≡ None
  pub no_given_initials : p.given_initials ≡ None
  pub no_use_prefix : p.use_prefix ≡ None

-- each of these people meets `IsKeptPerson`
abbrev pub AllKept : List Person → Type 0
AllKept [] = Unit {0}
AllKept (p ∷ people) = IsKeptPerson p × AllKept people

-- people that parse from their written form: at least one, and each meets `IsKeptPerson`
pub record ArePeople (people : List Person) : Type 0 where
  pub some : 0 < length people
  pub all : AllKept people
