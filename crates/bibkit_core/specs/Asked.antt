-- Meaning: words of public contracts.
-- The selection of findings: by rules of the command line, of the project and of the file, and by the findings of an earlier run.
use Rattle.std.specs.Prelude.{Bool, true, false, ◌||◌, ◌&&◌, not, List, [], ◌∷◌, filter}
use Rattle.std.specs.BTreeSet.{contains_text}
use Rattle.std.specs.Option.{option_map_or}
use Rattle.bib_findings.specs.declared.finding.Finding.{Finding}
use Rattle.bibkit_core.specs.Printed.{line_text}
use Rattle.bibkit_core.specs.Rules.{mean}
use Rattle.bibkit_core.specs.declared.rules.Rule.{Rule}
use Rattle.bibkit_core.specs.declared.selection.Selection.{Selection}

-- whether there are no rules
abbrev pub has_none : List Rule → Bool
has_none [] = true
has_none (rule ∷ rest) = false

-- whether the rules of a selection choose a finding: `only` is empty or has a rule that means the finding, and no rule in `ignored` means
-- it
abbrev pub is_chosen : Selection → Finding → Bool
is_chosen selection f = (has_none selection.only.items || mean selection.only.items f) && not (mean selection.ignored.items f)

-- whether a finding is accepted: there is a list of accepted findings, and it contains the text of this one
abbrev pub is_accepted : Selection → Finding → Bool
is_accepted selection f = option_map_or (λ texts. contains_text texts (line_text f)) selection.accepted false

-- whether a finding is reported: the rules choose it, no rule that its file switches off means it, and it isn't accepted
abbrev pub is_asked : Selection → List Rule → Finding → Bool
is_asked selection off f = is_chosen selection f && (not (mean off f) && not (is_accepted selection f))

-- the selected findings of a file that switches off these rules
abbrev pub selected_findings : Selection → List Rule → List Finding → List Finding
selected_findings selection off found = filter (λ f. is_asked selection off f) found
