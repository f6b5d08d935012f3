use Rattle.std.proofs.Common.{◌∙◌, sym}
use Rattle.bib_csl.proofs.EditorFacts.{none_under}
use Rattle.bib_csl.proofs.people.has_editors.Goals as goal

pub returns : goal.returns
returns c = λ no v.
    none_under v c.args.entry.now (sym c.has.ensures ∙ c.if-has.false) (sym c.has-2.ensures ∙ c.if-has-2.false)
    (sym c.has-3.ensures ∙ c.if-has-3.false) (sym c.has-4.ensures ∙ no)
