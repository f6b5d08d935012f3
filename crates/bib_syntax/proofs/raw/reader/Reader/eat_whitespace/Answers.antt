use Rattle.std.proofs.Common.{IfSome, subst, sym}
use Rattle.bib_text.proofs.PlaceFacts.{ahead_run}
use Rattle.bib_syntax.specs.Stretches.{IsMemoOf}
use Rattle.bib_syntax.proofs.raw.reader.Reader.eat_whitespace.Goals as goal

pub invariant_of-self : goal.invariant_of-self
invariant_of-self c =
    subst (λ text. IfSome c.self.inside.memo (λ memo. IsMemoOf text memo.now))
    (sym (ahead_run c.eat_whitespace.ensures.longest.run).text) c.self.invariant
