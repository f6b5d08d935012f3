-- Machinery: words of private contracts.
-- Findings that are appended to others.
use Rattle.std.specs.Prelude.{◌≡◌, List, ◌++◌}
use Rattle.bib_findings.specs.declared.finding.Finding.{Finding}

-- whether `new` is `old`, followed by findings that satisfy `Are`
pub record Adds (Are : List Finding → Type 0) (old new : List Finding) : Type 0 where
  pub added : List Finding
  pub are : Are added
  pub new_is : new ≡ old ++ added
