use Rattle.std.proofs.Common.{◌≡◌, ◌++◌, ap, ◌∙◌}
use Rattle.std.specs.Prelude.{codes}
use Rattle.bib_tables.specs.TypeError.{type_kind_text}
use Rattle.bib_syntax.specs.Views.{entry_reading_of}
use Rattle.bib_findings.specs.Entries.{field_message}
use Rattle.bib_findings.specs.Errors.{finding_at}
use Rattle.bib_findings.specs.Reported.{malformed_code, malformed_place}
use Rattle.bib_findings.proofs.entries.malformed_finding.Goals as goal

pub returns : goal.returns
returns c =
    let said = entry_reading_of c.args.said.now in
    let what : c.deref.result.now ≡ c.args.name.now ++ (codes ": " ++ type_kind_text c.args.error.now.kind) =
    c.deref.ensures ∙ c.in_ok-what.ensures.ok in
    ap (λ code. finding_at code c.in_ok-malformed_place.field-0 c.from_string-message.result) c.malformed_code.ensures
    ∙ ap (λ place. finding_at (malformed_code c.args.name.now) place c.from_string-message.result) c.in_ok-malformed_place.ensures
    ∙ ap (finding_at (malformed_code c.args.name.now) (malformed_place said c.args.entry.now c.args.name.now))
    (c.from_string-message.ensures
    ∙ (c.in_ok-field_message.ensures ∙ ap (field_message said.key.text (codes "malformed")) what))
