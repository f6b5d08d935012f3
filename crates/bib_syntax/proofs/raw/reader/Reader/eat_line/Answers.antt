use Rattle.std.proofs.Common.{sym, subst}
use Rattle.std.specs.Prelude.{not, ◌==◌}
use Rattle.bib_text.specs.Places.{Longest}
use Rattle.bib_syntax.proofs.raw.reader.Reader.eat_line.Goals as goal

pub returns-in-Some : goal.returns-in-Some
returns-in-Some c = subst (λ p. Longest (λ d. not (d == 10)) c.args.self.now p) (sym c.jump.ensures) c.in-Some.ensures.longest

pub returns-in-None : goal.returns-in-None
returns-in-None c = subst (λ p. Longest (λ d. not (d == 10)) p c.eat_until_byte.new.self) c.self.view_is c.eat_until_byte.ensures.longest
