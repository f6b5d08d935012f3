use Rattle.biblatex.proofs.RereadFacts.{text_reread}
use Rattle.biblatex.proofs.bibliography.Bibliography.to_biblatex_string.Goals as goal

pub returns-clause-reread : goal.returns-clause-reread
returns-clause-reread c settled =
    text_reread c.args.self.now.entries c.as_slice.result.now c.text_of.result c.text_of.ensures c.as_slice.ensures
    settled
