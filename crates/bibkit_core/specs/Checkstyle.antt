-- Meaning: words of public contracts.
-- The XML format of Checkstyle: an element for each file with findings, which contains an element for each finding.
use Rattle.std.specs.Prelude.{ℕ, List, [], ◌++◌, ◌==◌, length, if◌then◌else◌, codes}
use Rattle.std.specs.Fmt.{decimal}
use Rattle.bib_source.specs.declared.positions.Position.{Position}
use Rattle.bib_findings.specs.Codes.{code_name, severity_name, severity_of}
use Rattle.bib_findings.specs.declared.finding.Finding.{Finding}
use Rattle.bibkit_core.specs.Escapes.{escaped}
use Rattle.bibkit_core.specs.declared.escapes.Context.TheVariants.{XmlAttribute}

-- the text before the elements of all files
abbrev pub checkstyle_head : List ℕ
checkstyle_head = codes "<?xml version=\"1.0\" encoding=\"utf-8\"?>\n<checkstyle version=\"4.3\">\n"

-- the element of a finding at this position
abbrev pub error_element : Position → Finding → List ℕ
error_element place f =
    codes "    <error line=\""
    ++
    (decimal place.line
    ++
    (codes "\" column=\""
    ++
    (decimal place.column
    ++
    (codes "\" severity=\""
    ++
    (severity_name (severity_of f.code)
    ++
    (codes "\" message=\""
    ++ (escaped XmlAttribute f.message ++ (codes "\" source=\"bibkit." ++ (code_name f.code ++ codes "\"/>\n")))))))))

-- the element of the file with this name, with the elements of its findings; empty if it has none
abbrev pub file_element : List ℕ → List ℕ → List ℕ
file_element name errors =
    if length errors == 0 then []
    else codes "  <file name=\"" ++ (escaped XmlAttribute name ++ (codes "\">\n" ++ (errors ++ codes "  </file>\n")))

-- the text after the elements of all files
abbrev pub checkstyle_tail : List ℕ
checkstyle_tail = codes "</checkstyle>\n"
