-- Meaning: words of public contracts.
-- Keys, compared with the names of a file's entries.
use Rattle.std.specs.Prelude.{◌≡◌, ℕ, Bool, if◌then◌else◌, List, [], ◌∷◌, map}
use Rattle.std.specs.List.{flat_map, list_any}
use Rattle.bib_syntax.specs.Reading.{EntryReading, FileReading, Part}
use Rattle.bib_syntax.specs.Recovery.{IsFullRecovery}
use Rattle.bib_syntax.specs.declared.raw.recovery.SkippedBlock.{SkippedBlock}
use Rattle.bib_queries.specs.Names.{entry_names}
use Rattle.bib_queries.specs.Needed.{is_listed}

-- the names of entries
abbrev pub all_names : List EntryReading → List (List ℕ)
all_names entries = flat_map entry_names entries

-- whether the marks say, for each key, whether it is a name of an entry in the text; an entry with a syntax error has the names in
-- its complete parts
pub record IsKnownIn (text : List ℕ) (keys : List (List ℕ)) (marks : List Bool) : Type 0 where
  pub says : FileReading
  pub skipped : List SkippedBlock
  pub recovery : IsFullRecovery text says skipped
  pub is : marks ≡ map (is_listed (all_names says.entries)) keys

-- whether one of the names is among the keys
abbrev pub has_name_among : List (List ℕ) → List (List ℕ) → Bool
has_name_among keys names = list_any (λ name. is_listed keys name) names

-- the key of an entry, or no key if one of its names is among these keys
abbrev pub uncited_key : List (List ℕ) → EntryReading → List Part
uncited_key keys e = if has_name_among keys (entry_names e) then [] else e.key ∷ []

-- the keys, with their spans, of the entries that have no name among these keys
abbrev pub uncited_keys : List (List ℕ) → List EntryReading → List Part
uncited_keys keys entries = flat_map (uncited_key keys) entries

-- whether `found` are the keys, with their spans, of the entries in a text that have no name among `keys`; an entry with a syntax
-- error has the key and the names in its complete parts
pub record IsUncited (text : List ℕ) (keys : List (List ℕ)) (found : List Part) : Type 0 where
  pub says : FileReading
  pub skipped : List SkippedBlock
  pub recovery : IsFullRecovery text says skipped
  pub is : found ≡ uncited_keys keys says.entries
