-- Meaning: words of public contracts.
-- The workflow command of GitHub Actions for a finding.
use Rattle.std.specs.Prelude.{ℕ, List, [], ◌++◌, ◌==◌, codes, if◌then◌else◌}
use Rattle.std.specs.Fmt.{decimal}
use Rattle.bib_findings.specs.Codes.{code_name, severity_of}
use Rattle.bib_findings.specs.declared.codes.Severity.{Severity}
use Rattle.bib_findings.specs.declared.codes.Severity.TheVariants.{Error, Warning, Info}
use Rattle.bib_findings.specs.declared.finding.Finding.{Finding}
use Rattle.bibkit_core.specs.Escapes.{escaped}
use Rattle.bibkit_core.specs.declared.escapes.Context.TheVariants.{GithubMessage, GithubProperty}
use Rattle.bibkit_core.specs.declared.regions.Region.{Region}

-- the name of the command for a severity
abbrev pub severity_command : Severity → List ℕ
severity_command Error = codes "error"
severity_command Warning = codes "warning"
severity_command Info = codes "notice"

-- the properties for the columns; none for a region of several lines, for which GitHub has no columns
abbrev pub column_properties : Region → List ℕ
column_properties region =
    if region.start.line == region.end.line
    then codes ",col=" ++ (decimal region.start.column ++ (codes ",endColumn=" ++ decimal region.end.column)) else []

-- the properties for a region of the file with this name: file=FILE,line=LINE,endLine=LINE,col=COLUMN,endColumn=COLUMN. Only a region of
-- one line has the columns.
abbrev pub place_properties : List ℕ → Region → List ℕ
place_properties name region =
    codes "file=" ++ (escaped GithubProperty name ++ (codes ",line=" ++ (decimal region.start.line
    ++ (codes ",endLine=" ++ (decimal region.end.line ++ column_properties region)))))

-- the command for a finding in this region of the file with this name: ::error|warning|notice PROPERTIES,title=CODE::TEXT
abbrev pub finding_command : List ℕ → Region → Finding → List ℕ
finding_command name region f =
    codes "::" ++ (severity_command (severity_of f.code) ++ (codes " " ++ (place_properties name region
    ++ (codes ",title=" ++ (code_name f.code ++ (codes "::" ++ (escaped GithubMessage f.message ++ codes "\n")))))))
