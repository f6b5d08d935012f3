use Rattle.std.proofs.Common.{ap, ◌∙◌}
use Rattle.std.proofs.lemmas.Result.{IfOk-weaker}
use Rattle.serde_json.specs.Written.{compact_text, has_float}
use Rattle.bib_json.proofs.PlainFacts.{entry_has_no_float}
use Rattle.bib_json.proofs.ReadingFacts.{read_back}
use Rattle.bib_json.proofs.entries.entry_text.Goals as goal

pub returns-clause-text : goal.returns-clause-text
returns-clause-text c =
    let is = c.in_ok-value.ensures in
    IfOk-weaker c.to_string.result _ _
    (λ text written. written (ap has_float is ∙ entry_has_no_float c.args.entry.now) ∙ ap compact_text is)
    c.to_string.ensures.text

pub returns-clause-reads_back : goal.returns-clause-reads_back
returns-clause-reads_back c =
    read_back c.to_string.result _ c.args.entry.now c.in_ok-value.ensures c.to_string.ensures.text
    c.to_string.ensures.order c.to_string.ensures.reads_back
