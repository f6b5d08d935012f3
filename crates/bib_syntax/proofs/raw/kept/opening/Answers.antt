use Rattle.bib_text.specs.Places.{CharAt}
use Rattle.bib_text.proofs.PlaceFacts.{char_taken}
use Rattle.bib_syntax.proofs.KeptFacts.{unbracketed, unnamed}
use Rattle.bib_syntax.proofs.ReadingFacts.{taken_if}
use Rattle.bib_syntax.proofs.raw.kept.opening.Goals as goal
use Rattle.bib_syntax.proofs.raw.kept.opening.Goals.{After-eat_if}

sign : (c : After-eat_if) → CharAt c.args.s.now 64 c.eat_if.new.self
sign c = taken_if 64 _ c.eat_if.ensures c.requires

pub returns-in_default : goal.returns-in_default
returns-in_default c = unnamed (sign (goal.at.returns-in_default c).After-eat_if) c.in_default.ensures.fails.fails

pub returns-then-not-begins_bracket : goal.returns-then-not-begins_bracket
returns-then-not-begins_bracket c =
    unbracketed (sign (goal.at.returns-then-not-begins_bracket c).After-eat_if) c.in-Ok.ensures.found
    c.eat_whitespace.ensures.longest c.if-not-begins_bracket.ensures

pub returns : goal.returns
returns c =
    let bracket = c.if-not-begins_bracket.ensures in
    record {
      name_start = _;
      name_end = _;
      before = _;
      after = _;
      bracket = bracket.0;
      sign = sign (goal.at.returns c).After-eat_if;
      name = c.in-Ok.ensures.found;
      white = c.eat_whitespace.ensures.longest;
      opens = char_taken c.eat.result bracket.2 c.eat.ensures;
      is_bracket = bracket.3;
      white' = c.eat_whitespace-2.ensures.longest;
    }
