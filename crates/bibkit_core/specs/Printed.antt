-- Meaning: words of public contracts.
-- The texts that are printed for findings.
use Rattle.std.specs.Prelude.{◌≡◌, ℕ, ◌+◌, ◌-◌, ◌^◌, min, Bool, false, not, ◌&&◌, ◌==◌, if◌then◌else◌, List, [], ◌∷◌, ◌++◌, codes}
use Rattle.std.specs.Fmt.{decimal}
use Rattle.bib_source.specs.declared.positions.Position.{Position}
use Rattle.bib_text.specs.Characters as char
use Rattle.bib_findings.specs.Codes.{code_name, severity_name, severity_of}
use Rattle.bib_findings.specs.declared.codes.Severity.{Severity}
use Rattle.bib_findings.specs.declared.codes.Severity.TheVariants.{Error, Warning, Info}
use Rattle.bib_findings.specs.declared.finding.Finding.{Finding}
use Rattle.bibkit_core.specs.Checkstyle.{error_element}
use Rattle.bibkit_core.specs.Commands.{finding_command}
use Rattle.bibkit_core.specs.Objects.{element, finding_object, object_line}
use Rattle.bibkit_core.specs.Sarif.{result_object}
use Rattle.bibkit_core.specs.declared.regions.Region.{Region}
use Rattle.bibkit_core.specs.declared.request.FailOn.{FailOn}
use Rattle.bibkit_core.specs.declared.request.FailOn.TheVariants as fail_on
use Rattle.bibkit_core.specs.declared.request.Style.{Style}
use Rattle.bibkit_core.specs.declared.request.Style.TheVariants.{Plain, Colored, Json, JsonLines, Github, Checkstyle, Sarif}
use Rattle.bibkit_core.specs.declared.tally.Tally.{Tally}

-- the text of a finding, error|warning|info: TEXT [CODE, and an ending
abbrev pub text_and : Finding → List ℕ → List ℕ
text_and f ending = severity_name (severity_of f.code) ++ (codes ": " ++ (f.message ++ (codes " [" ++ (code_name f.code ++ ending))))

-- the text of a finding in its line, after the position: error|warning|info: TEXT [CODE]
abbrev pub line_text : Finding → List ℕ
line_text f = text_and f (codes "]")

-- the line of a finding at this position of the file with this name: FILE:LINE:COLUMN: error|warning|info: TEXT [CODE]
abbrev pub finding_line : List ℕ → Position → Finding → List ℕ
finding_line name place f =
    name ++ (codes ":" ++ (decimal place.line ++ (codes ":" ++ (decimal place.column ++ (codes ": " ++ text_and f (codes "]\n"))))))

-- the counts with one more finding of this severity; a count stays at its maximum
abbrev pub one_more : Tally → Severity → Tally
one_more tally Error = record tally { errors = min (tally.errors + 1) (2 ^ 64 - 1) }
one_more tally Warning = record tally { warnings = min (tally.warnings + 1) (2 ^ 64 - 1) }
one_more tally Info = record tally { infos = min (tally.infos + 1) (2 ^ 64 - 1) }

-- whether there are neither errors nor warnings
abbrev pub is_clean : Tally → Bool
is_clean tally = (tally.errors == 0) && (tally.warnings == 0)

-- whether no finding is counted: all counts are zero
abbrev pub has_no_finding : Tally → Bool
has_no_finding tally = is_clean tally && (tally.infos == 0)

-- whether there are findings for which `lint` has the status 1: those of at least the severity of the setting; with `Never`, none
abbrev pub has_failing : FailOn → Tally → Bool
has_failing fail_on.Error tally = not (tally.errors == 0)
has_failing fail_on.Warning tally = not (is_clean tally)
has_failing fail_on.Info tally = not (has_no_finding tally)
has_failing fail_on.Never tally = false

-- the count of findings that are information; empty if there is none
abbrev pub infos_text : ℕ → List ℕ
infos_text infos = if infos == 0 then [] else codes ", info: " ++ decimal infos

-- the line with the counts
abbrev pub counts_line : Tally → List ℕ
counts_line tally =
    codes "errors: " ++ (decimal tally.errors
    ++ (codes ", warnings: " ++ (decimal tally.warnings ++ (infos_text tally.infos ++ codes "\n"))))

-- the escape sequence for bold
abbrev pub bold_type : List ℕ
bold_type = char.escape ∷ codes "[1m"

-- the escape sequence for the colour of a severity
abbrev pub color : Severity → List ℕ
color Error = char.escape ∷ codes "[1;31m"
color Warning = char.escape ∷ codes "[1;33m"
color Info = char.escape ∷ codes "[1;36m"

-- the escape sequence that resets colour and bold
abbrev pub plain_type : List ℕ
plain_type = char.escape ∷ codes "[0m"

-- the file name, the line and the column in bold
abbrev pub colored_place : List ℕ → Position → List ℕ
colored_place name place =
    bold_type
    ++
    (name
    ++
    (codes ":"
    ++
    (decimal place.line
    ++ (codes ":" ++ (decimal place.column ++ (codes ":" ++ (plain_type ++ codes " ")))))))

-- the severity in its colour, the message and the code
abbrev pub colored_text : Finding → List ℕ
colored_text f =
    color (severity_of f.code)
    ++
    (severity_name (severity_of f.code)
    ++
    (codes ":"
    ++
    (plain_type
    ++ (codes " " ++ (f.message ++ (codes " [" ++ (code_name f.code ++ codes "]\n")))))))

-- the line of a finding in colours
abbrev pub colored_line : List ℕ → Position → Finding → List ℕ
colored_line name place f = colored_place name place ++ colored_text f

-- the line of a finding in colours, and any text below it
abbrev pub IsFramed : List ℕ → Position → Finding → List ℕ → Type 0
IsFramed name place f text = (frame : List ℕ) × (text ≡ colored_line name place f ++ frame)

-- the text of a finding: its line, the line in colours and any text below it, its JSON object in an array or on a line, its workflow
-- command, its element for Checkstyle, or its result of SARIF; the first finding has no comma before it
abbrev pub IsShown : Style → Bool → List ℕ → Region → Finding → List ℕ → Type 0
IsShown Plain is_first name region f text = text ≡ finding_line name region.start f
IsShown Colored is_first name region f text = IsFramed name region.start f text
IsShown Json is_first name region f text = text ≡ element is_first (finding_object name region f)
IsShown JsonLines is_first name region f text = text ≡ object_line name region f
IsShown Github is_first name region f text = text ≡ finding_command name region f
IsShown Checkstyle is_first name region f text = text ≡ error_element region.start f
IsShown Sarif is_first name region f text = text ≡ element is_first (result_object name region f)
