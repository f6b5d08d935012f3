-- Machinery: words of private contracts.
-- The identities of the entries so far, each with the indices of the first `most_compared` entries that have it.
use Rattle.std.specs.Prelude.{◌≡◌, ◌<◌, ℕ, not, List, [], ◌∷◌, ◌++◌, All, bytes_eq, find, length, nat_lt, slice_get, take, Option, if◌then◌else◌}
use Rattle.std.specs.Global.{Global}
use Rattle.std.specs.List.{filter, filter_map}
use Rattle.std.specs.Option.{option_map_or}
use Rattle.std.specs.declared.vec.Vec.{Vec}
use Rattle.bib_tables.specs.Requirements.{Names}
use Rattle.bib_syntax.specs.Reading.{EntryReading}
use Rattle.bib_findings.specs.Duplicates.{duplicate_finding, entries_at, most_compared}
use Rattle.bib_findings.specs.Identities.{are_told_apart, has_identity}
use Rattle.bib_findings.specs.declared.finding.Finding.{Finding}

-- the indices that are stored for an identity: none if it isn't stored
abbrev pub stored_indices : Option (Vec ℕ Global) → List ℕ
stored_indices had = option_map_or (λ indices. indices.items) had []

-- these indices and one more, unless there are already as many as an entry is compared with
abbrev pub with_entry_index : List ℕ → ℕ → List ℕ
with_entry_index indices index = if nat_lt (length indices) most_compared then indices ++ index ∷ [] else indices

-- the indices of the identity `id` after these identities were stored with an index, if `id` had the indices `had` before
abbrev pub remembered : Names → ℕ → List ℕ → List ℕ → List ℕ
remembered [] index id had = had
remembered (one ∷ ids) index id had = remembered ids index id (if bytes_eq id one then with_entry_index had index else had)

-- whether all stored indices are less than this number
abbrev pub AreThere : (List ℕ → Option (Vec ℕ Global)) → ℕ → Type 0
AreThere seen count = (id : List ℕ) → All (λ index. index < count) (stored_indices (seen id))

-- whether each identity has the indices of the first `most_compared` earlier entries that have it
abbrev pub AreFirstWith : (List ℕ → Option (Vec ℕ Global)) → List EntryReading → List EntryReading → Type 0
AreFirstWith seen said earlier =
    (id : List ℕ) → entries_at said (stored_indices (seen id)) ≡ take most_compared (filter (has_identity id) earlier)

-- the first of some entries that isn't told apart from an entry
abbrev pub first_alike : EntryReading → List EntryReading → Option EntryReading
first_alike said others = find (λ other. not (are_told_apart said other)) others

-- the first of the entries at the indices of an identity that isn't told apart from an entry
abbrev pub alike_by : (List ℕ → Option (Vec ℕ Global)) → List EntryReading → EntryReading → List ℕ → Option EntryReading
alike_by seen said one id = first_alike one (entries_at said (stored_indices (seen id)))

-- the first entry that `alike_by` finds for these identities
abbrev pub alike_among : (List ℕ → Option (Vec ℕ Global)) → List EntryReading → EntryReading → Names → Option EntryReading
alike_among seen said one ids = slice_get (filter_map (alike_by seen said one) ids) 0

-- the finding that an entry is likely the same work as another, if there is another
abbrev pub same_finding : EntryReading → Option EntryReading → List Finding
same_finding said first = option_map_or (λ one. duplicate_finding said one ∷ []) first []
