use Rattle.biblatex.proofs.RereadFacts.{entries_reread}
use Rattle.biblatex.proofs.laws.settled_is_read_again.Goals as goal

pub returns : goal.returns
returns c bibliography settled utf8 = entries_reread bibliography.entries settled utf8
