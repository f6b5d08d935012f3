use Rattle.std.proofs.Common.{subst}
use Rattle.std.specs.Prelude.{not, ◌==◌, ◌&&◌}
use Rattle.bib_text.specs.Places.{Longest}
use Rattle.bib_syntax.proofs.raw.reader.Reader.eat_until_any.Goals as goal

pub returns-clause-longest : goal.returns-clause-longest
returns-clause-longest c =
    subst
    (λ u.
    Longest (λ x. not (x == c.args.a) && not (x == c.args.b) && not (x == c.args.c)) u c.eat_until_any.new.self)
    c.self.view_is c.eat_until_any.ensures.longest
