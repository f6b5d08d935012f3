-- Meaning: words of public contracts.
-- Appending the output for findings to the output so far.
use Rattle.std.specs.Prelude.{◌≡◌, ℕ, List, ◌++◌, string_bytes}
use Rattle.bib_findings.specs.Codes.{severity_of}
use Rattle.bib_findings.specs.declared.finding.Finding.{Finding}
use Rattle.bibkit_core.specs.declared.lint.Printed.{Printed}
use Rattle.bibkit_core.specs.declared.regions.Region.{Region}
use Rattle.bibkit_core.specs.declared.request.Style.{Style}
use Rattle.bibkit_core.specs.declared.tally.Tally.{Tally}
use Rattle.bibkit_core.specs.Printed.{IsShown, has_no_finding, one_more}

-- `new` has the text in `old`, followed by a text for which `Are` holds, with the counts before and after it
pub record IsAdded (Are : Tally → List ℕ → Tally → Type 0) (old new : Printed) : Type 0 where
  pub text : List ℕ
  pub are : Are old.tally text new.tally
  pub printed : string_bytes new.text ≡ string_bytes old.text ++ text

-- `text` is the output for one finding, with the counts before and after it
pub record IsPrintedOne (style : Style) (name : List ℕ) (region : Region) (f : Finding) (before : Tally)
    (text : List ℕ) (after : Tally) : Type 0 where
  pub shown : IsShown style (has_no_finding before) name region f text
  pub tally : after ≡ one_more before (severity_of f.code)
