use Rattle.std.proofs.Common.{rules, ◌==◌}
use Rattle.bib_dates.proofs.separators.parse_hyphen.Goals as goal

pub returns : goal.returns
returns c = record {
  after_white = c.eat_whitespace.new.self;
  after_first = c.eat_if.new.self;
  white = c.eat_whitespace.ensures.longest;
  first = c.if-not-eat_if.ensures;
  more = c.eat_while.ensures.longest (λ x. x == 45) (λ x r post. search rules);
}
