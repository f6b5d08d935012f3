-- Entries that pass a test, and their indices.
use Rattle.std.proofs.Common.{◌≡◌, ℕ, Bool, true, false, List, [], ◌∷◌, ◌++◌, ◌+◌, ◌<◌, length, get_or, take, map, sym, ap, ◌∙◌, append-nil, cond}
use Rattle.std.specs.List.{All, filter}
use Rattle.std.proofs.lemmas.List.Elements.{All-get_or, filter-append}
use Rattle.bib_text.specs.declared.spanned.Spanned.{Spanned}
use Rattle.bib_syntax.specs.Reading.{EntryReading}
use Rattle.bib_syntax.specs.Views.{entry_reading_of}
use Rattle.bib_syntax.specs.declared.raw.RawEntry.{RawEntry}
use Rattle.bib_findings.specs.Duplicates.{entries_at}
use Rattle.bib_findings.proofs.SeenFacts.{entries_more, entries_next}

-- among the entries at the first indices and at the next one, those that pass are those before, and then the next if it passes
chosen_next : (test : EntryReading → Bool) (said : List (Spanned RawEntry)) (origins : List ℕ) (index : ℕ) (item : Spanned RawEntry)
    → All (λ i. i < length said) origins → index < length origins → item ≡ get_or said (get_or origins index 0) item
    → filter test (entries_at (map entry_reading_of said) (take (index + 1) origins))
    ≡ filter test (entries_at (map entry_reading_of said) (take index origins))
    ++ cond (test (entry_reading_of item)) (entry_reading_of item ∷ []) []
chosen_next test said origins index item there within is =
    ap (filter test) (entries_next said origins index item there within is)
    ∙ filter-append test (entries_at (map entry_reading_of said) (take index origins)) (entry_reading_of item ∷ [])

-- appending the index of the next entry, which passes, extends the entries that pass by it
pub chosen_kept : (test : EntryReading → Bool) (said : List (Spanned RawEntry)) (origins : List ℕ) (index : ℕ) (item : Spanned RawEntry)
    (old new : List ℕ) → All (λ i. i < length said) origins → index < length origins
    → item ≡ get_or said (get_or origins index 0) item
    → entries_at (map entry_reading_of said) old ≡ filter test (entries_at (map entry_reading_of said) (take index origins))
    → test (entry_reading_of item) ≡ true → new ≡ old ++ get_or origins index 0 ∷ []
    → entries_at (map entry_reading_of said) new ≡ filter test (entries_at (map entry_reading_of said) (take (index + 1) origins))
chosen_kept test said origins index item old new there within is before passes more =
    let readings : List EntryReading = map entry_reading_of said in
    let earlier : List EntryReading = filter test (entries_at readings (take index origins)) in
    ap (entries_at readings) more
    ∙ entries_more said old (get_or origins index 0) item (All-get_or (λ i. i < length said) origins index 0 within there)
    ∙ ap (λ e. entries_at readings old ++ entry_reading_of e ∷ []) (sym is)
    ∙ ap (λ l. l ++ entry_reading_of item ∷ []) before
    ∙ ap (λ b. earlier ++ cond b (entry_reading_of item ∷ []) []) (sym passes)
    ∙ sym (chosen_next test said origins index item there within is)

-- a next entry that doesn't pass doesn't change the entries that pass
pub chosen_left : (test : EntryReading → Bool) (said : List (Spanned RawEntry)) (origins : List ℕ) (index : ℕ) (item : Spanned RawEntry)
    (old : List ℕ) → All (λ i. i < length said) origins → index < length origins
    → item ≡ get_or said (get_or origins index 0) item
    → entries_at (map entry_reading_of said) old ≡ filter test (entries_at (map entry_reading_of said) (take index origins))
    → test (entry_reading_of item) ≡ false
    → entries_at (map entry_reading_of said) old ≡ filter test (entries_at (map entry_reading_of said) (take (index + 1) origins))
chosen_left test said origins index item old there within is before fails =
    let earlier : List EntryReading = filter test (entries_at (map entry_reading_of said) (take index origins)) in
    before ∙ sym (append-nil earlier)
    ∙ ap (λ b. earlier ++ cond b (entry_reading_of item ∷ []) []) (sym fails)
    ∙ sym (chosen_next test said origins index item there within is)
