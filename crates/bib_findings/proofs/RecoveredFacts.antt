-- The entries that recovery keeps, and their indices.
use Rattle.std.proofs.Common.{◌≡◌, ℕ, Bool, ◌<◌, suc, List, [], ◌∷◌, length, refl, sym, ap, ◌∙◌, subst, Result, Ok, Err, IfOk}
use Rattle.std.specs.List.{All, AllZip}
use Rattle.std.specs.declared.ops.Range.{Range}
use Rattle.std.proofs.lemmas.List.{length-map}
use Rattle.std.proofs.lemmas.List.Elements.{All-nil, All-cons}
use Rattle.std.proofs.lemmas.Option.{slice_get_within}
use Rattle.bib_abbreviations.specs.Abbreviations.{Definitions}
use Rattle.bib_entry.specs.declared.entry.Entry.{Entry}
use Rattle.bib_file_entries.specs.Claiming.{IsKeptSoFar, place_of}
use Rattle.bib_file_entries.specs.Kept.{EntriesKept, IsKeptFrom}
use Rattle.bib_collections.specs.Sorted.{ByText}
use Rattle.bib_syntax.specs.Reading.{EntryReading, FieldReading}
use Rattle.bib_syntax.specs.declared.raw.ParseError.{ParseError}
use Rattle.bib_syntax.specs.declared.raw.recovery.SkippedBlock.{SkippedBlock}
use Rattle.bib_text.proofs.ListFacts.{all_zip_length}
use Rattle.bib_findings.specs.Findings.{AreBetween, AreFindingsIn}
use Rattle.bib_findings.specs.Lacking.{AreLacking}
use Rattle.bib_findings.specs.declared.finding.Finding.{Finding}

-- as many raw entries are kept as entries
kept_count : {d : Definitions} {claimed : List (List ℕ)} {said kept : List EntryReading} {entries : List Entry}
    {errors : List ParseError} → EntriesKept d claimed said kept entries errors → length kept ≡ length entries
kept_count EntriesKept.none = refl
kept_count (EntriesKept.duplicate claimed rest) = kept_count rest
kept_count (EntriesKept.next fresh fields read rest) = ap suc (kept_count rest)

indices_within : (said : List EntryReading) (origins : List ℕ) (kept : List EntryReading)
    → AllZip (IsKeptFrom said) origins kept → All (λ index. index < length said) origins
indices_within said [] kept all = All-nil (λ index. index < length said)
indices_within said (index ∷ origins) [] all = absurd all
indices_within said (index ∷ origins) (one ∷ kept) all =
    All-cons (λ index. index < length said) index origins (slice_get_within said index all.0.one all.0.there)
    (indices_within said origins kept all.1)

-- there are as many places as kept entries
pub places_count : {d : Definitions} {said : List EntryReading} {own : List Entry} {names : ByText ℕ}
    {places : List (Range ℕ)} {origins : List ℕ} {errors : List ParseError}
    → IsKeptSoFar d said own names places origins errors → length places ≡ length own
places_count is = ap length is.stand ∙ length-map is.kept place_of ∙ kept_count is.read

pub origins_count : {d : Definitions} {said : List EntryReading} {own : List Entry} {names : ByText ℕ}
    {places : List (Range ℕ)} {origins : List ℕ} {errors : List ParseError}
    → IsKeptSoFar d said own names places origins errors → length origins ≡ length own
origins_count {said = said} {origins = origins} is = all_zip_length (IsKeptFrom said) origins is.kept is.origin ∙ kept_count is.read

pub origins_within : {d : Definitions} {said : List EntryReading} {own : List Entry} {names : ByText ℕ}
    {places : List (Range ℕ)} {origins : List ℕ} {errors : List ParseError}
    → IsKeptSoFar d said own names places origins errors → All (λ index. index < length said) origins
origins_within {said = said} {origins = origins} is = indices_within said origins is.kept is.origin

-- if indices are below the length of a list, equal indices are below a number that equals this length
pub within_of : (said : List EntryReading) (origins indices : List ℕ) (n : ℕ)
    → All (λ index. index < length said) origins → indices ≡ origins → length said ≡ n
    → All (λ index. index < n) indices
within_of said origins indices n within are count =
    subst (λ m. All (λ index. index < m) indices) count (subst (λ l. All (λ index. index < length said) l) (sym are) within)

-- equal lists have the same findings of a recovered file
pub findings_of : (text : List ℕ) (skipped skipped' : List SkippedBlock) (lacking lacking' : List Bool)
    (definitions definitions' : List FieldReading) (errors errors' : List ParseError)
    (said said' : List EntryReading) (origins origins' : List ℕ) (entries entries' : List Entry)
    (between found : List Finding)
    → skipped ≡ skipped' → lacking ≡ lacking' → definitions ≡ definitions' → errors ≡ errors' → said ≡ said' → origins ≡ origins'
    → entries ≡ entries'
    → AreFindingsIn text skipped lacking definitions errors said origins entries between found
    → AreFindingsIn text skipped' lacking' definitions' errors' said' origins' entries' between found
findings_of text skipped skipped' lacking lacking' definitions definitions' errors errors' said said' origins origins' entries entries'
    between found
    a b c d e f g are =
    subst (λ x. AreFindingsIn text skipped' lacking' definitions' errors' said' origins' x between found) g
    (subst (λ x. AreFindingsIn text skipped' lacking' definitions' errors' said' x entries between found) f
    (subst (λ x. AreFindingsIn text skipped' lacking' definitions' errors' x origins entries between found) e
    (subst (λ x. AreFindingsIn text skipped' lacking' definitions' x said origins entries between found) d
    (subst (λ x. AreFindingsIn text skipped' lacking' x errors said origins entries between found) c
    (subst (λ x. AreFindingsIn text skipped' x definitions errors said origins entries between found) b
    (subst (λ x. AreFindingsIn text x lacking definitions errors said origins entries between found) a are))))))

-- equal lists have the same findings between entries
pub between_of : (text ends : List ℕ) (skipped skipped' : List SkippedBlock) (names : ByText ℕ) (said said' : List EntryReading)
    (origins origins' : List ℕ) (own own' : List Entry) (definitions definitions' : List FieldReading) (found : List Finding)
    → skipped ≡ skipped' → said ≡ said' → origins ≡ origins' → own ≡ own' → definitions ≡ definitions'
    → AreBetween text ends skipped names said origins own definitions found
    → AreBetween text ends skipped' names said' origins' own' definitions' found
between_of text ends skipped skipped' names said said' origins origins' own own' definitions definitions' found a b c d e are =
    subst (λ x. AreBetween text ends skipped' names said' origins' own' x found) e
    (subst (λ x. AreBetween text ends skipped' names said' origins' x definitions found) d
    (subst (λ x. AreBetween text ends skipped' names said' x own definitions found) c
    (subst (λ x. AreBetween text ends skipped' names x origins own definitions found) b
    (subst (λ x. AreBetween text ends x names said origins own definitions found) a are))))

-- equal lists have the same flags of entries of which fields may be lost
pub lacking_same : (skipped skipped' : List SkippedBlock) (names : ByText ℕ) (said said' : List EntryReading)
    (origins origins' : List ℕ) (own own' : List Entry) (lacking : List Bool) → skipped ≡ skipped' → said ≡ said'
    → origins ≡ origins' → own ≡ own'
    → AreLacking skipped names said origins own lacking → AreLacking skipped' names said' origins' own' lacking
lacking_same skipped skipped' names said said' origins origins' own own' lacking a b c d are =
    subst (λ x. AreLacking skipped' names said' origins' x lacking) d
    (subst (λ x. AreLacking skipped' names said' x own lacking) c
    (subst (λ x. AreLacking skipped' names x origins own lacking) b (subst (λ x. AreLacking x names said origins own lacking) a are)))

-- if the value of an Ok satisfies `P`, it satisfies each `Q` that follows from `P`
pub if_ok_more : {A E : Type 0} (P Q : A → Type 0) (r : Result A E) → ((a : A) → P a → Q a) → IfOk r P → IfOk r Q
if_ok_more P Q (Ok a) more is = more a is
if_ok_more P Q (Err e) more is = tt
