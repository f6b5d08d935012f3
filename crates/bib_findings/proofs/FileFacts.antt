-- The findings of names that are reported once in a file, file by file.
use Rattle.std.proofs.Common.{◌≡◌, ℕ, zero, suc, true, false, cond, List, [], ◌∷◌, ◌++◌, ◌+◌, ◌<◌, ◌≤◌, nat_le, length, get_or, drop, take, map, Some, refl, sym, ap, ◌∙◌, arith}
use Rattle.std.specs.Prelude.{slice_get}
use Rattle.std.specs.List.{All, cons_option}
use Rattle.std.proofs.lemmas.Bool.Decides.{nat_tests}
use Rattle.std.proofs.lemmas.List.{drop_more}
use Rattle.std.proofs.lemmas.List.Elements.{All-drop, All-get_or, All-head, All-tail}
use Rattle.bib_text.specs.declared.spanned.Spanned.{Spanned}
use Rattle.bib_syntax.specs.Reading.{EntryReading}
use Rattle.bib_syntax.specs.Views.{entry_reading_of}
use Rattle.bib_syntax.specs.declared.raw.RawEntry.{RawEntry}
use Rattle.bib_findings.specs.Duplicates.{entries_at}
use Rattle.bib_findings.specs.Once.{count_begun, once_findings, once_in_file}
use Rattle.bib_findings.proofs.ListFacts.{get_mapped}

-- the entries at an index and at others are the entry at the index, and the others
entries_from : (said : List (Spanned RawEntry)) (index : ℕ) (one : Spanned RawEntry) (origins : List ℕ)
    → index < length said → one ≡ get_or said index one
    → entries_at (map entry_reading_of said) (index ∷ origins)
    ≡ entry_reading_of one ∷ entries_at (map entry_reading_of said) origins
entries_from said index one origins within is =
    ap (λ o. cons_option o (entries_at (map entry_reading_of said) origins))
    (get_mapped entry_reading_of said index one within ∙ ap (λ e. Some (entry_reading_of e)) (sym is))

-- the entry at an index
entry_at : (said : List (Spanned RawEntry)) (index : ℕ) → index < length said
    → (e : EntryReading) × (slice_get (map entry_reading_of said) index ≡ Some e)
entry_at [] index within = absurd (omega arith)
entry_at (one ∷ said) index within =
    (entry_reading_of (get_or (one ∷ said) index one), get_mapped entry_reading_of (one ∷ said) index one within)

-- the entries at the first indices are the first entries
entries_take : (said : List (Spanned RawEntry)) (n : ℕ) (origins : List ℕ) → All (λ i. i < length said) origins
    → entries_at (map entry_reading_of said) (take n origins) ≡ take n (entries_at (map entry_reading_of said) origins)
entries_take said zero origins there = refl
entries_take said (suc n) [] there = refl
entries_take said (suc n) (index ∷ origins) there =
    let readings : List EntryReading = map entry_reading_of said in
    let one = entry_at said index (All-head (λ i. i < length said) index origins there) in
    ap (λ o. cons_option o (entries_at readings (take n origins))) one.1
    ∙ ap (λ l. one.0 ∷ l) (entries_take said n origins (All-tail (λ i. i < length said) index origins there))
    ∙ sym (ap (λ o. take (suc n) (cons_option o (entries_at readings origins))) one.1)

-- the entries at the indices after the first ones are the entries after the first ones
entries_drop : (said : List (Spanned RawEntry)) (n : ℕ) (origins : List ℕ) → All (λ i. i < length said) origins
    → entries_at (map entry_reading_of said) (drop n origins) ≡ drop n (entries_at (map entry_reading_of said) origins)
entries_drop said zero origins there = refl
entries_drop said (suc n) [] there = refl
entries_drop said (suc n) (index ∷ origins) there =
    let readings : List EntryReading = map entry_reading_of said in
    let one = entry_at said index (All-head (λ i. i < length said) index origins there) in
    entries_drop said n origins (All-tail (λ i. i < length said) index origins there)
    ∙ sym (ap (λ o. drop (suc n) (cons_option o (entries_at readings origins))) one.1)

-- the entries from an index on are the entry at it, and those after it
entries_next : (said : List (Spanned RawEntry)) (origins : List ℕ) (index : ℕ) (one : Spanned RawEntry)
    → All (λ i. i < length said) origins → index < length origins → one ≡ get_or said (get_or origins index 0) one
    → entries_at (map entry_reading_of said) (drop index origins)
    ≡ entry_reading_of one ∷ entries_at (map entry_reading_of said) (drop (index + 1) origins)
entries_next said origins index one there within is =
    ap (entries_at (map entry_reading_of said)) (drop_more origins index 0 within)
    ∙ entries_from said (get_or origins index 0) one (drop (index + 1) origins)
    (All-get_or (λ i. i < length said) origins index 0 within there) is

-- the test for an entry that begins after an offset, and for any other one
pub begins_later : (start end : ℕ) → end < start → nat_le start end ≡ false
begins_later start end later = grind (arith, nat_tests)

pub begins_by : (start end : ℕ) → start ≤ end → nat_le start end ≡ true
begins_by start end by = grind (arith, nat_tests)

-- an entry that begins by an offset is counted
pub begun_more : (said : List (Spanned RawEntry)) (origins : List ℕ) (end index : ℕ) (one : Spanned RawEntry)
    → All (λ i. i < length said) origins → index < length origins → one ≡ get_or said (get_or origins index 0) one
    → nat_le one.span.start end ≡ true
    → count_begun end (entries_at (map entry_reading_of said) (drop index origins))
    ≡ 1 + count_begun end (entries_at (map entry_reading_of said) (drop (index + 1) origins))
begun_more said origins end index one there within is begun =
    ap (count_begun end) (entries_next said origins index one there within is)
    ∙ ap (λ b. cond b (1 + count_begun end (entries_at (map entry_reading_of said) (drop (index + 1) origins))) 0) begun

-- the count ends before an entry that begins after the offset
pub begun_ends : (said : List (Spanned RawEntry)) (origins : List ℕ) (end index : ℕ) (one : Spanned RawEntry)
    → All (λ i. i < length said) origins → index < length origins → one ≡ get_or said (get_or origins index 0) one
    → nat_le one.span.start end ≡ false → count_begun end (entries_at (map entry_reading_of said) (drop index origins)) ≡ 0
begun_ends said origins end index one there within is later =
    ap (count_begun end) (entries_next said origins index one there within is)
    ∙ ap (λ b. cond b (1 + count_begun end (entries_at (map entry_reading_of said) (drop (index + 1) origins))) 0) later

-- the indices from a place on are indices of entries
pub within_dropped : (said : List (Spanned RawEntry)) (origins : List ℕ) (n : ℕ) → All (λ i. i < length said) origins
    → All (λ i. i < length said) (drop n origins)
within_dropped said origins n there = All-drop (λ i. i < length said) n origins there

-- the findings from a file on are those of this file, and those from the next file on
pub file_next : (said : List (Spanned RawEntry)) (ends left : List ℕ) (index end count : ℕ) → All (λ i. i < length said) left
    → index < length ends → end ≡ get_or ends index 0 → count ≡ count_begun end (entries_at (map entry_reading_of said) left)
    → once_findings (drop index ends) (entries_at (map entry_reading_of said) left)
    ≡ once_in_file (entries_at (map entry_reading_of said) (take count left))
    ++ once_findings (drop (index + 1) ends) (entries_at (map entry_reading_of said) (drop count left))
file_next said ends left index end count there within is counted =
    let entries : List EntryReading = entries_at (map entry_reading_of said) left in
    let later : List ℕ = drop (index + 1) ends in
    ap (λ l. once_findings l entries) (drop_more ends index 0 within)
    ∙ ap (λ e. once_in_file (take (count_begun e entries) entries) ++ once_findings later (drop (count_begun e entries) entries))
    (sym is)
    ∙ ap (λ n. once_in_file (take n entries) ++ once_findings later (drop n entries)) (sym counted)
    ∙ ap (λ l. once_in_file l ++ once_findings later (drop count entries)) (sym (entries_take said count left there))
    ∙ ap (λ l. once_in_file (entries_at (map entry_reading_of said) (take count left)) ++ once_findings later l)
    (sym (entries_drop said count left there))
