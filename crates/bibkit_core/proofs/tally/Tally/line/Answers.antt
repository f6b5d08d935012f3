use Rattle.bibkit_core.proofs.TallyFacts.{line_without}
use Rattle.bibkit_core.proofs.tally.Tally.line.Goals as goal

pub returns-then-infos-eq0 : goal.returns-then-infos-eq0
returns-then-infos-eq0 c = line_without c.args.self c.format.result c.if-infos-eq0.true c.format.ensures.ok
