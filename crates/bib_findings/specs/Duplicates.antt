-- Meaning: words of public contracts.
-- The findings of entries that are likely the same work as an earlier one.
use Rattle.std.specs.Prelude.{ℕ, not, List, [], ◌∷◌, ◌++◌, codes, if◌then◌else◌, find, slice_get, take, Option}
use Rattle.std.specs.List.{filter, filter_map}
use Rattle.std.specs.Option.{option_map_or}
use Rattle.bib_syntax.specs.Reading.{EntryReading}
use Rattle.bib_findings.specs.Entries.{part_range}
use Rattle.bib_findings.specs.EntryNames.{entry_name}
use Rattle.bib_findings.specs.Errors.{finding_at}
use Rattle.bib_findings.specs.Identities.{are_told_apart, has_identity, have_open_list, identities, share_doi, share_isbn}
use Rattle.bib_findings.specs.declared.codes.Code.TheVariants.{LikelyDuplicate}
use Rattle.bib_findings.specs.declared.finding.Finding.{Finding}

-- the entries of a file that have these indices
abbrev pub entries_at : List EntryReading → List ℕ → List EntryReading
entries_at said indices = filter_map (slice_get said) indices

-- the words for the title, the year and the people that two entries share: only the first person if `and others` ends a list of people
abbrev pub shared_people : EntryReading → EntryReading → List ℕ
shared_people said first =
    if have_open_list said first then codes "title, year and first person"
    else codes "title, year and people"

-- the words for the identity that two entries share; the entries are likely the same work
abbrev pub common_ground : EntryReading → EntryReading → List ℕ
common_ground said first =
    if share_doi said first then codes "DOI"
    else if share_isbn said first then codes "ISBN"
    else shared_people said first

-- the message for an entry with this key that is likely the same work as the entry with the key `first`; `shared` names their identity
abbrev pub duplicate_message : List ℕ → List ℕ → List ℕ → List ℕ
duplicate_message key shared first =
    entry_name key ++ (codes ": likely the same work: same " ++ (shared ++ (codes " as \"" ++ (first ++ codes "\""))))

-- the finding of an entry that is likely the same work as the entry `first`; its place is the key of the later entry
abbrev pub duplicate_finding : EntryReading → EntryReading → Finding
duplicate_finding said first =
    finding_at LikelyDuplicate (part_range said.key) (duplicate_message said.key.text (common_ground said first) first.key.text)

-- the greatest number of earlier entries with one identity that an entry is compared with
abbrev pub most_compared : ℕ
most_compared = 16

-- among the first `most_compared` earlier entries with an identity, the first that isn't told apart from an entry
abbrev pub same_by : List EntryReading → EntryReading → List ℕ → Option EntryReading
same_by earlier said id = find (λ other. not (are_told_apart said other)) (take most_compared (filter (has_identity id) earlier))

-- the earlier entry that is likely the same work as an entry: by the first of its identities for which there is one
abbrev pub same_work : List EntryReading → EntryReading → Option EntryReading
same_work earlier said = slice_get (filter_map (same_by earlier said) (identities said)) 0

-- the finding of an entry that is likely the same work as an earlier one, if there is one
abbrev pub duplicate_after : List EntryReading → EntryReading → List Finding
duplicate_after earlier said = option_map_or (λ first. duplicate_finding said first ∷ []) (same_work earlier said) []

-- the findings of the entries of a list, each compared with the earlier ones and with those before it in the list
abbrev pub duplicates_after : List EntryReading → List EntryReading → List Finding
duplicates_after earlier [] = []
duplicates_after earlier (said ∷ rest) = duplicate_after earlier said ++ duplicates_after (earlier ++ said ∷ []) rest

-- the findings of entries that are likely the same work as an earlier one
abbrev pub duplicates : List EntryReading → List Finding
duplicates = duplicates_after []
