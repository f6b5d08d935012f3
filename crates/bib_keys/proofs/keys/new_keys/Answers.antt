use Rattle.bib_keys.proofs.KeyFacts.{allowed_keys, distinct_keys}
use Rattle.bib_keys.proofs.keys.new_keys.Goals as goal

pub returns-clause-distinct : goal.returns-clause-distinct
returns-clause-distinct c = distinct_keys c.args.pattern.now c.args.entries.now _ c.in_ok-keys.ensures

pub returns-clause-allowed : goal.returns-clause-allowed
returns-clause-allowed c = allowed_keys c.args.pattern.now c.args.entries.now _ c.in_ok-keys.ensures
