-- Machinery: words of private contracts.
-- The result of parsing a bibliography, and appending the report on an entry.
use Rattle.std.specs.Prelude.{◌≡◌, ℕ, List, ◌++◌, Result, Ok, Err, string_bytes}
use Rattle.biblatex.specs.Headline.{IsBibliographyOf}
use Rattle.biblatex.specs.Syntax.{Entry, Bibliography, TypeError, AreMalformed}
use Rattle.bib.specs.Output.{ShowsNoBibliography, report_lines}
use Rattle.bib.specs.declared.run.Answer.{Answer}

-- the result of parsing bytes: their bibliography, or the output and status 1 for their error
abbrev pub IsParseAnswer : List ℕ → Result Bibliography Answer → Type 0
IsParseAnswer bytes (Ok bibliography) = IsBibliographyOf bytes bibliography
IsParseAnswer bytes (Err answer) = ShowsNoBibliography bytes (string_bytes answer.text) × (answer.status ≡ 1)

-- a report on this entry is appended to the text
abbrev pub AddsReport : Entry → List ℕ → List ℕ → Type 0
AddsReport entry old new = (errors : List (List ℕ × TypeError)) × AreMalformed entry errors × (new ≡ old ++ report_lines (entry, errors))
