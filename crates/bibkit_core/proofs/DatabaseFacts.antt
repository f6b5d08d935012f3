-- The findings of several files as one database: one more citation, and one more file.
use Rattle.std.proofs.Common.{◌≡◌, ◌∙◌, ℕ, ◌+◌, ◌-◌, ◌<◌, ◌≤◌, arith, Bool, true, false, cond, not, List, [], ◌∷◌, ◌++◌, ap, append-nil, append_assoc, drop, get_or, length, length-append, map, refl, subst, sym, take}
use Rattle.std.specs.Prelude.{filter, if◌then◌else◌}
use Rattle.std.proofs.lemmas.List.{drop-drop, length-drop, map-append, take_all, take_more}
use Rattle.std.proofs.lemmas.List.Elements.{filter-append}
use Rattle.bib_findings.specs.declared.finding.Finding.{Finding}
use Rattle.bib_queries.specs.declared.citations.Citation.{Citation}
use Rattle.std.specs.String.{string_bytes}
use Rattle.bib_text.proofs.ListFacts.{drop_is}
use Rattle.bib_syntax.proofs.FilesFacts.{drop_all, next_file}
use Rattle.bib_syntax.specs.Files.{FilesText, no_files, with_next}
use Rattle.std.specs.List.{fold}
use Rattle.bibkit_core.specs.Adding.{IsAdded}
use Rattle.bibkit_core.specs.Compared.{missing_finding}
use Rattle.bibkit_core.specs.Database.{AreFilesPrinted, IsStoredPrinted, count_of_file, joined_texts, no_findings}
use Rattle.bibkit_core.specs.Database.{AreFilesPrinted as printed}
use Rattle.bibkit_core.specs.declared.database.StoredFile.{StoredFile}
use Rattle.bibkit_core.specs.declared.lint.Printed.{Printed}
use Rattle.bibkit_core.specs.declared.request.Lint.{Lint}
use Rattle.bibkit_core.specs.declared.tally.Tally.{Tally}

-- a citation has no finding if it is known, and otherwise its finding
one_missing : (known : List ℕ → Bool) (c : Citation) → map missing_finding (filter (λ x. not (known x.key)) (c ∷ []))
    ≡ (if known c.key then [] else missing_finding c ∷ [])
one_missing known c =
    elim (known c.key) as (λ b. map missing_finding (cond (not b) (c ∷ []) []) ≡ (if b then [] else missing_finding c ∷ []))
    [ true ↦ refl | false ↦ refl ]

-- the first `i + 1` citations have the findings of the first `i`, and that of the next one unless it is known
pub missing_more : (known : List ℕ → Bool) (cs : List Citation) (i : ℕ) (c : Citation) → i < length cs → c ≡ get_or cs i c
    → map missing_finding (filter (λ x. not (known x.key)) (take (i + 1) cs))
    ≡ map missing_finding (filter (λ x. not (known x.key)) (take i cs)) ++ (if known c.key then [] else missing_finding c ∷ [])
missing_more known cs i c within is =
    let test : Citation → Bool = λ x. not (known x.key) in
    ap (λ l. map missing_finding (filter test l)) (take_more cs i c within ∙ ap (λ x. take i cs ++ x ∷ []) (sym is))
    ∙ ap (map missing_finding) (filter-append test (take i cs) (c ∷ []))
    ∙ map-append missing_finding (filter test (take i cs)) (filter test (c ∷ []))
    ∙ ap (λ l. map missing_finding (filter test (take i cs)) ++ l) (one_missing known c)

-- if the output so far begins that for all files, it still does with the output for the file at the index
pub files_more : {lint : Lint} (files : List StoredFile) (ends : List ℕ) (found slice : List Finding) (start first count index : ℕ)
    (file : StoredFile) {old new : Printed} → index < length files → index < length ends → file ≡ get_or files index file
    → count ≡ count_of_file (drop (index + 1) ends) (get_or ends index 0) (drop first found) → slice ≡ take count (drop first found)
    → IsAdded (IsStoredPrinted lint start file slice) old new
    → ((rest : List ℕ) (after : Tally)
    → AreFilesPrinted lint start (drop index files) (drop index ends) (drop first found) old.tally rest after
    → AreFilesPrinted lint 0 files ends found no_findings (string_bytes old.text ++ rest) after)
    → (rest : List ℕ) (after : Tally)
    → AreFilesPrinted lint (get_or ends index 0 + 2) (drop (index + 1) files) (drop (index + 1) ends) (drop (first + count) found)
    new.tally rest after
    → AreFilesPrinted lint 0 files ends found no_findings (string_bytes new.text ++ rest) after
files_more {lint} files ends found slice start first count index file {old} {new} in_files in_ends is counted sliced added before rest
    after tail =
    let end = get_or ends index 0 in
    let left = drop first found in
    let later = drop (index + 1) ends in
    let here : IsStoredPrinted lint start file (take (count_of_file later end left) left) old.tally added.text new.tally =
    subst (λ l. IsStoredPrinted lint start file l old.tally added.text new.tally) (sliced ∙ ap (λ n. take n left) counted) added.are in
    let following : AreFilesPrinted lint (end + 2) (drop (index + 1) files) later (drop (count_of_file later end left) left)
    new.tally rest after =
    subst (λ l. AreFilesPrinted lint (end + 2) (drop (index + 1) files) (drop (index + 1) ends) l new.tally rest after)
    (sym (ap (λ n. drop n left) (sym counted) ∙ drop-drop count first found)) tail in
    let both : AreFilesPrinted lint start (file ∷ drop (index + 1) files) (end ∷ drop (index + 1) ends) left old.tally
    (added.text ++ rest) after = printed.next added.text rest here following in
    let all =
    before (added.text ++ rest) after
    (subst (λ l. AreFilesPrinted lint start l (drop index ends) left old.tally (added.text ++ rest) after)
    (sym (drop_is files index file in_files is))
    (subst (λ l. AreFilesPrinted lint start (file ∷ drop (index + 1) files) l left old.tally (added.text ++ rest) after)
    (sym (next_file ends index in_ends)) both)) in
    subst (λ t. AreFilesPrinted lint 0 files ends found no_findings t after)
    (sym (ap (λ t. t ++ rest) added.printed ∙ append_assoc (string_bytes old.text) added.text rest)) all

-- if the output so far begins that for all files, and no file is left, it is that for all files
pub files_all : {lint : Lint} (files : List StoredFile) (ends : List ℕ) (found : List Finding) (start first index : ℕ)
    (old : Printed) → length files ≤ index → length ends ≤ index
    → ((rest : List ℕ) (after : Tally)
    → AreFilesPrinted lint start (drop index files) (drop index ends) (drop first found) old.tally rest after
    → AreFilesPrinted lint 0 files ends found no_findings (string_bytes old.text ++ rest) after)
    → AreFilesPrinted lint 0 files ends found no_findings (string_bytes old.text) old.tally
files_all {lint} files ends found start first index old in_files in_ends before =
    let none : AreFilesPrinted lint start (drop index files) (drop index ends) (drop first found) old.tally [] old.tally =
    subst (λ l. AreFilesPrinted lint start l (drop index ends) (drop first found) old.tally [] old.tally)
    (sym (drop_all files index in_files))
    (subst (λ l. AreFilesPrinted lint start [] l (drop first found) old.tally [] old.tally) (sym (drop_all ends index in_ends))
    printed.none) in
    subst (λ t. AreFilesPrinted lint 0 files ends found no_findings t old.tally) (append-nil (string_bytes old.text))
    (before [] old.tally none)

-- joining files adds as many ends as there are files
joined_count : (texts : FilesText) (files : List StoredFile)
    → length (fold (λ t f. with_next t (string_bytes f.decoded.text)) texts files).ends ≡ length texts.ends + length files
joined_count texts [] = omega arith
joined_count texts (file ∷ files) =
    let more = joined_count (with_next texts (string_bytes file.decoded.text)) files in
    omega (arith, more, length-append texts.ends ((length texts.text + length (string_bytes file.decoded.text)) ∷ []))

pub joined_length : (files : List StoredFile) → length files ≡ length (joined_texts files).ends
joined_length files = let all = joined_count no_files files in omega (arith, all)
