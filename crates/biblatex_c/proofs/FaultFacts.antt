-- Facts about the JSON array of the findings of a text.
use Rattle.std.proofs.Common.{◌≡◌, ◌∙◌, ℕ, List, [], ◌++◌, codes, None, false, ap, ap₂, append_assoc, subst}
use Rattle.bibkit_core.specs.Tasks.{BeginsLinting, IsEndOfFindings, in_file, linting_begins, linting_ends, linting_prints, opening}
use Rattle.bibkit_core.specs.declared.linting.Linting.{Linting}
use Rattle.bibkit_core.specs.declared.request.Lint.{Lint}
use Rattle.bibkit_core.specs.declared.request.Style.TheVariants as style
use Rattle.biblatex_c.specs.Calls.{AreFaults}

-- for a lint task with style JSON, without a document and without a setting that leaves findings out, the texts before, for and after one
-- file with an empty name are the JSON array of all findings of the file
pub faults_found : {bytes begin found : List ℕ} (end : List ℕ) {status : ℕ} {lint : Lint} (begun ended : Linting)
    → BeginsLinting lint begun → lint.style ≡ style.Json
    → lint.selection.only.items ≡ [] → lint.selection.ignored.items ≡ [] → lint.selection.accepted ≡ None → lint.cited ≡ None
    → lint.conditions.items ≡ [] → lint.has_switches ≡ false
    → lint.own.fields.items ≡ [] → lint.own.types.items ≡ [] → lint.own.abbreviations.items ≡ [] → begin ≡ linting_begins begun
    → linting_prints begun [] bytes found ended → linting_ends ended end status → AreFaults bytes ((begin ++ found) ++ end)
faults_found {bytes} {begin} {found} end begun ended begins json only ignored accepted cited every switches fields types abbreviations opens
    prints ends =
    let same = begins.lint_is in
    let in_json : begun.lint.now.style ≡ style.Json = ap (λ l. l.style) same ∙ json in
    let opened : begin ≡ codes "[" = opens ∙ ap opening in_json in
    let closed : end ≡ codes "\n]\n" =
    subst (λ s. IsEndOfFindings s ended.tally end) in_json (subst (λ l. IsEndOfFindings l.style ended.tally end) prints.0 ends.0) in
    let whole : found ≡ prints.1.0 = prints.1.2 ∙ ap (λ s. in_file s [] prints.1.0) in_json in
    record {
      lint = begun.lint.now;
      in_json = in_json;
      any = ap (λ l. l.selection.only.items) same ∙ only;
      all = ap (λ l. l.selection.ignored.items) same ∙ ignored;
      new = ap (λ l. l.selection.accepted) same ∙ accepted;
      no_switches = ap (λ l. l.has_switches) same ∙ switches;
      uncited = ap (λ l. l.cited) same ∙ cited;
      every = ap (λ l. l.conditions.items) same ∙ every;
      no_fields = ap (λ l. l.own.fields.items) same ∙ fields;
      no_types = ap (λ l. l.own.types.items) same ∙ types;
      no_abbreviations = ap (λ l. l.own.abbreviations.items) same ∙ abbreviations;
      none = begun.tally;
      no_errors = begins.no_errors;
      no_warnings = begins.no_warnings;
      no_infos = begins.no_infos;
      found = prints.1.0;
      after = ended.tally;
      printed = prints.1.1;
      is = append_assoc begin found end ∙ ap₂ (λ x y. x ++ (found ++ y)) opened closed ∙ ap (λ t. codes "[" ++ (t ++ codes "\n]\n")) whole;
    }
