-- Facts about the findings and the lines of skipped blocks.
use Rattle.std.proofs.Common.{◌≡◌, ℕ, Bool, true, false, List, [], ◌∷◌, ◌++◌, map, refl, ap, subst, ◌∙◌, append-nil, arith, eqb, length, rules}
use Rattle.std.proofs.lemmas.List.{nil_from_length}
use Rattle.std.proofs.lemmas.List.Sorted.{IsPermutation-refl}
use Rattle.bib_text.specs.Places.{Place}
use Rattle.bib_findings.specs.Entries.{AreOfEach}
use Rattle.bib_findings.specs.Entries.AreOfEach.{none}
use Rattle.bib_findings.specs.Errors.{block_finding}
use Rattle.bib_findings.specs.Findings.{AreFindingsIn, AreSortedByPlace}
use Rattle.bib_findings.specs.declared.finding.Finding.{Finding}
use Rattle.bib_syntax.specs.Reading.{EntryReading, FieldReading, FileReading}
use Rattle.bib_syntax.specs.Recovery.{IsFullRecovery, IsRecovery, Recovered, skipped_block}
use Rattle.bib_syntax.specs.Recovery.{Recovered as recovered}
use Rattle.bib_syntax.specs.declared.raw.recovery.SkippedBlock.{SkippedBlock}
use Rattle.std.proofs.lemmas.Bool.{eqb-true}
use Rattle.bibkit_core.specs.Skipped.{AreSkippedLines}

-- a recovery that skips no block is the same whether parts are kept or not
recovery_with_parts : {u : Place} {says : FileReading} {skipped : List SkippedBlock} → skipped ≡ [] → Recovered false u says skipped
    → Recovered true u says skipped
recovery_with_parts no_blocks (recovered.end end) = recovered.end end
recovery_with_parts no_blocks (recovered.skipped char passes x) = recovered.skipped char passes (recovery_with_parts no_blocks x)
recovery_with_parts no_blocks (recovered.line_comment m x) = recovered.line_comment m (recovery_with_parts no_blocks x)
recovery_with_parts no_blocks (recovered.block b x) = recovered.block b (recovery_with_parts no_blocks x)
recovery_with_parts {u} no_blocks (recovered.unread {w = w} {e = e} {errors = errors} sign unread on held x) =
    let clash : skipped_block e u w ∷ errors ≡ [] = no_blocks in
    absurd (cc)

-- the lines for a text whose recovery skips no block: none
pub no_lines : {text : List ℕ} {says : FileReading} (skipped : List SkippedBlock) {lines : List ℕ} (name : List ℕ)
    → eqb (length skipped) 0 ≡ true → IsRecovery text says skipped → lines ≡ [] → AreSkippedLines name text lines
no_lines {text} {says} skipped name is_empty recovery empty =
    let no_blocks : skipped ≡ [] = nil_from_length skipped (eqb-true (length skipped) 0 is_empty) in
    record {
      found = [];
      are = record {
        says = says;
        skipped = [];
        recovery = subst (λ s. IsFullRecovery text says s) no_blocks (recovery_with_parts no_blocks recovery);
        sorted = record { same = IsPermutation-refl []; sorted = search rules; stable = search rules };
      };
      lines_are = empty;
    }

-- for an empty list of entries, the list of findings is empty
none_of_each : {A : Type 0} {Are : EntryReading → A → List Finding → Type 0} {said : List EntryReading} {found : List Finding}
    → AreOfEach Are said [] [] found → found ≡ []
none_of_each none = refl

-- without errors, kept entries and findings between entries, the findings of a file are those of its skipped blocks
pub findings_of_blocks : {text : List ℕ} {skipped : List SkippedBlock} {lacking : List Bool} {definitions : List FieldReading}
    {said : List EntryReading} {between found : List Finding} → between ≡ []
    → AreFindingsIn text skipped lacking definitions [] said [] [] between found
    → AreSortedByPlace (map (block_finding text said) skipped) found
findings_of_blocks {text} {skipped} {said = said} {found = found} no_others are =
    let blocks = map (block_finding text said) skipped in
    subst (λ all. AreSortedByPlace all found)
    (ap (λ others. blocks ++ (are.of_entries ++ others)) no_others
    ∙ ap (λ of_entries. blocks ++ (of_entries ++ [])) (none_of_each are.reports) ∙ append-nil blocks) are.sorted
