use Rattle.std.proofs.Common.{◌∙◌, ap, refl}
use Rattle.bib_findings.specs.Codes.{code_name, severity_of}
use Rattle.bibkit_core.specs.Sarif as spec
use Rattle.bibkit_core.specs.Sarif.{described_rule, message_object}
use Rattle.bibkit_core.proofs.sarif.rule_object.Goals as goal

pub returns : goal.returns
returns c =
    let code = c.args.code in
    let first = c.first_sentence-first.result.now in
    let explanation = c.explanation-explanation.result.now in
    let name = code_name code in
    let full = message_object explanation in
    let default_level = spec.level (severity_of code) in (
      record { code = code; first = first; explanation = explanation },
      record { code_is = refl; rest = c.first_sentence-first.ensures.0; begins = c.first_sentence-first.ensures.1 },
      c.in_ok-object.ensures
          ∙ ap (λ n. described_rule n c.as_str-2.result.now c.as_str-3.result.now c.level-level.result.now) c.name.ensures
          ∙ ap (λ l. described_rule name c.as_str-2.result.now c.as_str-3.result.now l)
          (c.level-level.ensures ∙ ap spec.level c.severity.ensures)
          ∙ ap (λ f. described_rule name c.as_str-2.result.now f default_level) (c.as_str-3.ensures.value ∙ c.in_ok-full.ensures)
          ∙ ap (λ s. described_rule name s full default_level)
          (c.as_str-2.ensures.value ∙ c.in_ok-short.ensures ∙ ap message_object (c.as_str.ensures.value ∙ c.in_ok-sentence.ensures.ok)),
    )
