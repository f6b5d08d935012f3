use Rattle.std.proofs.Common.{sym, subst, ◌∙◌}
use Rattle.std.proofs.lemmas.Result.{IfOk-weaker}
use Rattle.bibkit_core.specs.Compared.{cited_keys}
use Rattle.bibkit_core.specs.Marks.{AreUncited, AreUnused}
use Rattle.bibkit_core.proofs.ComparedFacts.{unused_asked, unused_unasked}
use Rattle.bibkit_core.proofs.cited.Document.unused_findings.Goals as goal

pub returns-then-asks_for_unused : goal.returns-then-asks_for_unused
returns-then-asks_for_unused c =
    let document = c.args.self.now in
    let text = c.args.text.now in
    IfOk-weaker c.uncited_entries.result (λ found. AreUncited text (cited_keys document.citations) found.items)
    (λ found. AreUnused document text found.items)
    (λ found are.
    subst (λ l. AreUnused document text l) (sym are.are)
    (unused_asked document text are.parts (sym c.asks_for_unused.ensures ∙ c.if-asks_for_unused.true)
    are.uncited)) c.uncited_entries.ensures

pub returns-else-asks_for_unused : goal.returns-else-asks_for_unused
returns-else-asks_for_unused c =
    subst (λ l. AreUnused c.args.self.now c.args.text.now l) (sym c.new.ensures.items)
    (unused_unasked c.args.self.now c.args.text.now (sym c.asks_for_unused.ensures ∙ c.if-asks_for_unused.false))
