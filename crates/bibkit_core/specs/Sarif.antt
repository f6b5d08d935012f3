-- Meaning: words of public contracts.
-- A log in the Static Analysis Results Interchange Format (SARIF) 2.1.0, with a result for each finding and a rule for each code.
use Rattle.std.specs.Prelude.{◌≡◌, ℕ, true, false, List, [], ◌∷◌, ◌++◌, codes}
use Rattle.std.specs.Fmt.{decimal}
use Rattle.std.specs.List.{AllZip, flat_map}
use Rattle.bib_findings.specs.Codes.{all_codes, code_name, severity_of}
use Rattle.bib_findings.specs.declared.codes.Code.{Code}
use Rattle.bib_findings.specs.declared.codes.Severity.{Severity}
use Rattle.bib_findings.specs.declared.codes.Severity.TheVariants.{Error, Warning, Info}
use Rattle.bib_findings.specs.declared.finding.Finding.{Finding}
use Rattle.bibkit_core.specs.Objects.{element, json_text}
use Rattle.bibkit_core.specs.Uris.{uri}
use Rattle.bibkit_core.specs.declared.regions.Region.{Region}

-- the text before all results
abbrev pub sarif_head : List ℕ
sarif_head =
    codes "{\"$schema\":\"https://docs.oasis-open.org/sarif/sarif/v2.1.0/os/schemas/sarif-schema-2.1.0.json\",\"version\":\"2.1.0\","
    ++ codes "\"runs\":[{\"columnKind\":\"unicodeCodePoints\",\"results\":["

-- the level of a severity (section 3.27.10)
abbrev pub level : Severity → List ℕ
level Error = codes "error"
level Warning = codes "warning"
level Info = codes "note"

-- the object of a region (section 3.30)
abbrev pub region_object : Region → List ℕ
region_object region =
    codes "{\"startLine\":" ++ (decimal region.start.line ++ (codes ",\"startColumn\":" ++ (decimal region.start.column
    ++ (codes ",\"endLine\":" ++ (decimal region.end.line ++ (codes ",\"endColumn\":" ++ (decimal region.end.column ++ codes "}")))))))

-- the object of a region of the file with this name (section 3.28)
abbrev pub location_object : List ℕ → Region → List ℕ
location_object name region =
    codes "{\"physicalLocation\":{\"artifactLocation\":{\"uri\":\""
    ++ (uri name ++ (codes "\"},\"region\":" ++ (region_object region ++ codes "}}")))

-- the object of a finding in this region of the file with this name (section 3.27)
abbrev pub result_object : List ℕ → Region → Finding → List ℕ
result_object name region f =
    codes "{\"ruleId\":\""
    ++
    (code_name f.code
    ++
    (codes "\",\"level\":\""
    ++
    (level (severity_of f.code)
    ++
    (codes "\",\"message\":{\"text\":"
    ++ (json_text f.message ++ (codes "},\"locations\":[" ++ (location_object name region ++ codes "]}")))))))

-- a rule of the program: a code, the beginning of its explanation, and the whole explanation
pub record Rule : Type 0 where
  pub code : Code
  pub first : List ℕ
  pub explanation : List ℕ

-- whether a rule is one for this code; its text `first` is the beginning of the explanation
pub record IsRuleOf (code : Code) (rule : Rule) : Type 0 where
  pub code_is : rule.code ≡ code
  pub rest : List ℕ
  pub begins : rule.explanation ≡ rule.first ++ rest

-- the object of a message that is a text (section 3.12)
abbrev pub message_object : List ℕ → List ℕ
message_object text = codes "{\"text\":" ++ (json_text text ++ codes "}")

-- the object of a rule with this name, these objects of a short and of a full description, and this level (section 3.49); the full
-- description is also the help
abbrev pub described_rule : List ℕ → List ℕ → List ℕ → List ℕ → List ℕ
described_rule name short full default_level =
    codes "{\"id\":\"" ++ (name ++ (codes "\",\"shortDescription\":" ++ (short ++ (codes ",\"fullDescription\":" ++ (full
    ++ (codes ",\"help\":" ++ (full ++ (codes ",\"defaultConfiguration\":{\"level\":\"" ++ (default_level ++ codes "\"}}")))))))))

-- the object of a rule: its short description is the beginning of the explanation with a point after it, and the full one is the
-- explanation
abbrev pub rule_object : Rule → List ℕ
rule_object rule =
    described_rule (code_name rule.code) (message_object (rule.first ++ codes ".")) (message_object rule.explanation)
    (level (severity_of rule.code))

-- these rules, as the elements of an array
abbrev pub rule_elements : List Rule → List ℕ
rule_elements [] = []
rule_elements (rule ∷ rest) = element true (rule_object rule) ++ flat_map (λ r. element false (rule_object r)) rest

-- `text` is the text after all results: the name and the version of the program, and a rule for each code
pub record IsSarifTail (text : List ℕ) : Type 0 where
  pub rules : List Rule
  pub of_codes : AllZip IsRuleOf all_codes rules
  pub is : text
      ≡ codes "\n],\"tool\":{\"driver\":{\"name\":\"bibkit\",\"version\":\"0.1.0\",\"rules\":["
      ++ (rule_elements rules ++ codes "\n]}}}]}\n")
