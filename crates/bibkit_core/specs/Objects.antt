-- Meaning: words of public contracts.
-- The JSON object of a finding, and elements of JSON arrays.
use Rattle.std.specs.Prelude.{ℕ, Bool, List, ◌++◌, if◌then◌else◌, codes}
use Rattle.std.specs.Fmt.{decimal}
use Rattle.serde_json.specs.Data.{Data}
use Rattle.serde_json.specs.Written.{compact_text}
use Rattle.bib_findings.specs.Codes.{code_name, severity_name, severity_of}
use Rattle.bib_findings.specs.declared.finding.Finding.{Finding}
use Rattle.bibkit_core.specs.declared.regions.Region.{Region}

-- a text as a JSON string with its quotes
abbrev pub json_text : List ℕ → List ℕ
json_text text = compact_text (Data.string text)

-- the text before an element of an array: a line feed, after a comma unless the element is the first
abbrev pub separator : Bool → List ℕ
separator is_first = if is_first then codes "\n" else codes ",\n"

-- an element of an array on a new line, after a comma unless it is the first
abbrev pub element : Bool → List ℕ → List ℕ
element is_first value = separator is_first ++ value

-- the members for the lines and columns of a region
abbrev pub region_members : Region → List ℕ
region_members region =
    codes "\"line\":" ++ (decimal region.start.line ++ (codes ",\"column\":" ++ (decimal region.start.column
    ++ (codes ",\"end_line\":" ++ (decimal region.end.line ++ (codes ",\"end_column\":" ++ decimal region.end.column))))))

-- the JSON object of a finding in this region of the file with this name
abbrev pub finding_object : List ℕ → Region → Finding → List ℕ
finding_object name region f =
    codes "{\"file\":"
    ++
    (json_text name
    ++
    (codes ","
    ++
    (region_members region
    ++
    (codes ",\"severity\":\""
    ++
    (severity_name (severity_of f.code)
    ++ (codes "\",\"code\":\"" ++ (code_name f.code ++ (codes "\",\"message\":" ++ (json_text f.message ++ codes "}")))))))))

-- the JSON object of a finding on a line
abbrev pub object_line : List ℕ → Region → Finding → List ℕ
object_line name region f = finding_object name region f ++ codes "\n"
