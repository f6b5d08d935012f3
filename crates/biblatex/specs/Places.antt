-- Meaning: words of public contracts.
-- The names that entries claim, by the indices of the entries.
use Rattle.std.specs.Prelude.{◌≡◌, ℕ, ◌≤◌, ◌<◌, true, List, slice_get, Some, MatchOption}
use Rattle.bib_entry.specs.declared.entry.Entry.{Entry}
use Rattle.bib_file_entries.specs.Bibliography.{Bibliography, claims, index_of}
use Rattle.bib_file_entries.specs.Loaded.{is_claimed}

-- an entry is at this index, and it claims the name
pub record ClaimsAt (entries : List Entry) (index : ℕ) (name : List ℕ) : Type 0 where
  pub entry : Entry
  pub there : slice_get entries index ≡ Some entry
  pub claims : is_claimed (claims entry) name ≡ true

-- this is the last index whose entry claims the name
pub record IsLastClaim (entries : List Entry) (name : List ℕ) (index : ℕ) : Type 0 where
  pub here : ClaimsAt entries index name
  pub last : (other : ℕ) → ClaimsAt entries other name → other ≤ index

-- each name points to the last index whose entry claims it, and to no index if no entry claims it
abbrev pub PointsToLastClaims : Bibliography → Type 0
PointsToLastClaims bibliography = (name : List ℕ)
    → MatchOption (index_of bibliography name) ((index : ℕ) → ClaimsAt bibliography.entries index name → ⊥)
    (IsLastClaim bibliography.entries name)

-- no key is a name that an entry at an earlier index claims
abbrev pub HasFreshKeys : List Entry → Type 0
HasFreshKeys entries =
    (earlier later : ℕ) (entry : Entry) → earlier < later → slice_get entries later ≡ Some entry
    → ClaimsAt entries earlier entry.key → ⊥
