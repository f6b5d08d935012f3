-- Meaning: words of public contracts.
-- New keys of entries: the texts that can be one, and the names that entries have already.
use Rattle.std.specs.Prelude.{◌≡◌, ℕ, suc, ◌<◌, Bool, true, false, not, ◌&&◌, ◌||◌, ◌==◌, if◌then◌else◌, List, [], ◌∷◌, ◌++◌, length, codes, take, Option, Some, bytes_eq, is_some, option_to_list, slice_get}
use Rattle.std.specs.List.{list_any}
use Rattle.std.specs.Str.Iter.{HasSubslice}
use Rattle.bib_text.specs.Characters as char
use Rattle.bib_text.specs.Places.{Run, place}
use Rattle.bib_syntax.specs.Characters.{is_key}
use Rattle.bib_syntax.specs.Grammar.{is_word}
use Rattle.bib_syntax.specs.Reading.{EntryReading}
use Rattle.bib_queries.specs.Known.{all_names}
use Rattle.bib_queries.specs.Names.{aliases_of, entry_names}

-- whether `c` is one of  " # $ % ' ( ) = \ { ~
abbrev pub is_unsafe_in_key : ℕ → Bool
is_unsafe_in_key c =
    c == char.quote || c == char.hash || c == char.dollar || c == char.percent || c == char.apostrophe
    || c == char.open_parenthesis || c == char.close_parenthesis || c == char.equals || c == char.backslash
    || c == char.open_brace || c == char.tilde

-- whether `c` is allowed in a new key: any character of a key that is none of these
abbrev pub is_new_key : ℕ → Bool
is_new_key c = is_key c && not (is_unsafe_in_key c)

-- a text can be a new key. BibTeX, Biber and bibtool read it as one, and a reference to it is read as it is written. A citation of `*`
-- means all entries
pub record CanBeNewKey (text : List ℕ) : Type 0 where
  pub some : 0 < length text
  pub no_star : bytes_eq text (codes "*") ≡ false
  pub run : Run is_new_key (place text 0) (place text (length text))
  pub hyphens : HasSubslice text (codes "--") → ⊥

-- the key of each entry can be a new key
abbrev pub HaveNewKeys : List EntryReading → Type 0
HaveNewKeys entries = (k : ℕ) (e : EntryReading) → slice_get entries k ≡ Some e → CanBeNewKey e.key.text

-- a key is the first key of these entries that can't be a new key
pub record IsFirstUnsafeKey (entries : List EntryReading) (key : List ℕ) : Type 0 where
  pub index : ℕ
  pub entry : EntryReading
  pub here : slice_get entries index ≡ Some entry
  pub is : key ≡ entry.key.text
  pub cant : CanBeNewKey key → ⊥
  pub before : (k : ℕ) (e : EntryReading) → k < index → slice_get entries k ≡ Some e → CanBeNewKey e.key.text

-- whether one of these names is `name`, in any ASCII case
abbrev pub has_word : List (List ℕ) → List ℕ → Bool
has_word names name = list_any (λ own. is_word own name) names

-- the names that an entry keeps: all of them, or those in its fields `ids` if its key is replaced
abbrev pub kept_names : Bool → EntryReading → List (List ℕ)
kept_names is_replaced e = if is_replaced then aliases_of e.fields else entry_names e

-- the names that stay if entries get new keys by their indices: those in `ids`, and the keys of the entries that get none. The first
-- entry has the given index
abbrev pub staying_names : (ℕ → Option (List ℕ)) → ℕ → List EntryReading → List (List ℕ)
staying_names keys index [] = []
staying_names keys index (e ∷ es) = kept_names (is_some (keys index)) e ++ staying_names keys (suc index) es

-- the new keys that entries get; the first entry has the given index
abbrev pub new_keys : (ℕ → Option (List ℕ)) → ℕ → List EntryReading → List (List ℕ)
new_keys keys index [] = []
new_keys keys index (e ∷ es) = option_to_list (keys index) ++ new_keys keys (suc index) es

-- a new key of an entry is, in any ASCII case, a name that stays or the new key of an earlier entry
pub record IsNewKeyTaken (entries : List EntryReading) (keys : ℕ → Option (List ℕ)) : Type 0 where
  pub index : ℕ
  pub entry : EntryReading
  pub new : List ℕ
  pub here : slice_get entries index ≡ Some entry
  pub gets : keys index ≡ Some new
  pub taken : has_word (staying_names keys 0 entries ++ new_keys keys 0 (take index entries)) new ≡ true

-- whether an entry has a name of one of these entries, in any ASCII case
abbrev pub shares_name : List EntryReading → EntryReading → Bool
shares_name entries e = list_any (has_word (all_names entries)) (entry_names e)
