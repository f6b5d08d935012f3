-- Meaning: words of public contracts.
-- The output for the findings of a file.
use Rattle.std.specs.Prelude.{◌≡◌, ℕ, Bool, false, List, [], ◌∷◌, ◌++◌, fold, if◌then◌else◌, string_bytes}
use Rattle.bib_findings.specs.Codes.{severity_of}
use Rattle.bib_source.specs.declared.decoding.Decoded.{Decoded}
use Rattle.bib_findings.specs.Findings.{AreFindings}
use Rattle.bib_findings.specs.declared.finding.Finding.{Finding}
use Rattle.bibkit_core.specs.Asked.{selected_findings}
use Rattle.bibkit_core.specs.Regions.{region_at}
use Rattle.bibkit_core.specs.Conditions.{AreReportedFindings, findings_of_no_entry}
use Rattle.bibkit_core.specs.Encodings.{byte_findings}
use Rattle.bibkit_core.specs.OwnNames.{without_own}
use Rattle.bibkit_core.specs.Rules.{switched_off}
use Rattle.bibkit_core.specs.declared.request.Lint.{Lint}
use Rattle.bibkit_core.specs.declared.request.Style.{Style}
use Rattle.bibkit_core.specs.declared.rules.Rule.{Rule}
use Rattle.bibkit_core.specs.declared.tally.Tally.{Tally}
use Rattle.bibkit_core.specs.Printed.{IsShown, has_no_finding, one_more}

-- the text of findings in the file with this name and these bytes, in turn, each in the region of its span; the Boolean says
-- whether the first of them is the first of all findings
pub data AreShown (style : Style) (name bytes : List ℕ) : Bool → List Finding → List ℕ → Type 0 where
  none : {is_first : Bool} → AreShown style name bytes is_first [] []
  next : {is_first : Bool} {f : Finding} {rest : List Finding} (text : List ℕ) {texts : List ℕ}
      → IsShown style is_first name (region_at bytes f.span) f text
      → AreShown style name bytes false rest texts → AreShown style name bytes is_first (f ∷ rest) (text ++ texts)

-- the counts after these findings
abbrev pub tally_after : Tally → List Finding → Tally
tally_after tally found = fold (λ t f. one_more t (severity_of f.code)) tally found

-- `text` is the output for these findings in a file with these bytes, with the counts before and after them
pub record ArePrinted (style : Style) (name bytes : List ℕ) (found : List Finding) (before : Tally) (text : List ℕ)
    (after : Tally) : Type 0 where
  pub shown : AreShown style name bytes (has_no_finding before) found text
  pub tally : after ≡ tally_after before found

-- the rules that the lines of a text switch off, if the request has switches
abbrev pub off_in : Lint → List ℕ → List Rule
off_in lint text = if lint.has_switches then switched_off text else []

-- `text` is the output for a file with the reported findings `kept` of its decoded text, with the counts before and after them. If there
-- are no conditions, the selected findings of the file's bytes come first, at their positions in the bytes. The selected findings among
-- `kept` follow, at their positions in the decoded text. Findings that the file switches off are left out.
pub record IsPrintedKept (lint : Lint) (name bytes : List ℕ) (decoded : Decoded) (kept : List Finding) (before : Tally)
    (text : List ℕ) (after : Tally) : Type 0 where
  pub between : Tally
  pub first : List ℕ
  pub second : List ℕ
  pub of_bytes : ArePrinted lint.style name bytes
      (selected_findings lint.selection (off_in lint (string_bytes decoded.text))
      (findings_of_no_entry lint.conditions.items (byte_findings bytes decoded.invalid))) before first between
  pub of_text : ArePrinted lint.style name (string_bytes decoded.text)
      (selected_findings lint.selection (off_in lint (string_bytes decoded.text)) kept) between second after
  pub is : text ≡ first ++ second

-- `text` is the output for the selected findings of a file, with the counts before and after them. Findings that report a name of the
-- project as unknown are left out.
pub record IsPrintedFile (lint : Lint) (name bytes : List ℕ) (decoded : Decoded) (before : Tally) (text : List ℕ)
    (after : Tally) : Type 0 where
  pub found : List Finding
  pub are : AreFindings (string_bytes decoded.text) found
  pub kept : List Finding
  pub reported : AreReportedFindings lint.conditions.items (string_bytes decoded.text) found kept
  pub printed : IsPrintedKept lint name bytes decoded (without_own lint.own kept) before text after
