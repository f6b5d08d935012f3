use Rattle.std.proofs.Common.{sym, subst}
use Rattle.std.specs.Prelude.{not, ◌==◌}
use Rattle.bib_text.specs.Places.{Longest}
use Rattle.bib_syntax.proofs.raw.reader.Reader.eat_to_brace.Goals as goal

pub returns-in-Some-clause-longest : goal.returns-in-Some-clause-longest
returns-in-Some-clause-longest c =
    subst (λ p. Longest (λ d. not (d == 125)) c.args.self.now p) (sym c.jump.ensures) c.in-Some.ensures.longest

pub returns-in-None-clause-longest : goal.returns-in-None-clause-longest
returns-in-None-clause-longest c =
    subst (λ p. Longest (λ d. not (d == 125)) p c.eat_until_byte.new.self) c.self.view_is
    c.eat_until_byte.ensures.longest
