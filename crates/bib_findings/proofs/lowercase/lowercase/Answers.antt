use Rattle.std.proofs.Common.{sym, ◌∙◌}
use Rattle.bib_findings.proofs.LowercaseFacts.{lowercase_formed}
use Rattle.bib_findings.proofs.lowercase.lowercase.Goals as goal

pub returns : goal.returns
returns c =
    c.in_ok-forms.ensures
    ∙ lowercase_formed c.args.text.now (sym c.has_capital_sigma.ensures ∙ c.if-has_capital_sigma.false)
