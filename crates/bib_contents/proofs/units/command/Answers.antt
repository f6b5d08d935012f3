use Rattle.std.proofs.Common.{◌≡◌, ap, ◌∙◌, not, rules}
use Rattle.std.specs.Str.{chars}
use Rattle.bib_contents.specs.Contents.{Argument, is_space, is_empty}
use Rattle.bib_contents.specs.UnitViews.{argument_of}
use Rattle.bib_contents.specs.Progress.{left}
use Rattle.bib_contents.proofs.CommandUnitFacts.{command_found, command_none, spaced_chars, unclosed_fails}
use Rattle.bib_contents.proofs.units.command.Goals as goal

pub eat_while-space-requires-clause-is_test : goal.eat_while-space-requires-clause-is_test
eat_while-space-requires-clause-is_test c = (is_space, λ x r post. post)

pub returns-in_default : goal.returns-in_default
returns-in_default c =
    let name = c.eat_name-name.ensures in
    let space = chars c.eat_while-space.result.now in
    let white = c.eat_while-space.ensures.longest is_space (λ x r post. post) in
    let is_spaced = not c.is_empty-is_spaced.result in
    let spaced : is_spaced ≡ not (is_empty space) = ap not c.is_empty-is_spaced.ensures ∙ spaced_chars _ c.eat_while-space.utf8 in
    let unclosed = c.in_default.ensures.unclosed in
    record {
      same = search rules;
      found =
          command_none (left c.args.s.now) (chars c.eat_name-name.result.now) (left c.eat_name-name.new.s) space
          (left c.eat_while-space.new.self) c.takes_next-takes.result is_spaced name.passed.left name.name name.whole
          c.eat_while-space.ensures.passed.left white.0 white.1 (c.takes_next-takes.ensures space spaced) spaced
          c.in_default.ensures.found;
      fails =
          λ some. unclosed_fails (left c.args.s.now) (chars c.eat_name-name.result.now) (left c.eat_name-name.new.s) space
          (left c.eat_while-space.new.self) is_spaced unclosed.1.0 name.passed.left name.name name.whole
          c.eat_while-space.ensures.passed.left spaced unclosed.0 unclosed.1.1 unclosed.1.2;
      inside = search rules;
    }

pub returns-in-Plain : goal.returns-in-Plain
returns-in-Plain c =
    let space = chars c.eat_while-space.result.now in
    let white = c.eat_while-space.ensures.longest is_space (λ x r post. post) in
    let spaced : not c.is_empty-is_spaced.result ≡ not (is_empty space) =
    ap not c.is_empty-is_spaced.ensures ∙ spaced_chars _ c.eat_while-space.utf8 in
    let found = rw c.in-Plain.is at c.in-Some.ensures.found in
    record {
      same = search rules;
      found =
          command_found (left c.args.s.now) (chars c.eat_name-name.result.now) (left c.eat_name-name.new.s) space
          (left c.eat_while-space.new.self) (left c.eat_argument.new.s) c.takes_next-takes.result
          (not c.is_empty-is_spaced.result) (argument_of c.in-Plain.argument)
          c.eat_name-name.ensures.passed.left c.eat_name-name.ensures.name c.eat_name-name.ensures.whole
          c.eat_while-space.ensures.passed.left white.0 white.1 (c.takes_next-takes.ensures space spaced) spaced found.0
          found.1;
      fails = search rules;
      inside = search rules;
    }

pub returns-in-Braced : goal.returns-in-Braced
returns-in-Braced c =
    let space = chars c.eat_while-space.result.now in
    let white = c.eat_while-space.ensures.longest is_space (λ x r post. post) in
    let spaced : not c.is_empty-is_spaced.result ≡ not (is_empty space) =
    ap not c.is_empty-is_spaced.ensures ∙ spaced_chars _ c.eat_while-space.utf8 in
    let found = rw c.in-Braced.is at c.in-Some.ensures.found in
    record {
      same = search rules;
      found =
          command_found (left c.args.s.now) (chars c.eat_name-name.result.now) (left c.eat_name-name.new.s) space
          (left c.eat_while-space.new.self) (left c.eat_argument.new.s) c.takes_next-takes.result
          (not c.is_empty-is_spaced.result) (Argument.braced (left c.in-Braced.inside))
          c.eat_name-name.ensures.passed.left c.eat_name-name.ensures.name c.eat_name-name.ensures.whole
          c.eat_while-space.ensures.passed.left white.0 white.1 (c.takes_next-takes.ensures space spaced) spaced found.0
          found.1;
      fails = search rules;
      inside = search rules;
    }
