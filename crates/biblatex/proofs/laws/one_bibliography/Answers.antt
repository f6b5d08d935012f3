use Rattle.std.proofs.Common.{sym, ◌∙◌}
use Rattle.biblatex.proofs.ResolvedFacts.{fields_once, keys_same, names_same}
use Rattle.biblatex.proofs.laws.one_bibliography.Goals as goal

pub returns-clause-accepted : goal.returns-clause-accepted
returns-clause-accepted c says bibliography loaded = loaded.accepted

pub returns-clause-keys : goal.returns-clause-keys
returns-clause-keys c says one other first second =
    first.keys ∙ keys_same says first.accepted.entries second.accepted.entries ∙ sym second.keys

pub returns-clause-fields : goal.returns-clause-fields
returns-clause-fields c says one other first second = fields_once one other first second

pub returns-clause-names : goal.returns-clause-names
returns-clause-names c says one other first second =
    first.names ∙ names_same says first.accepted.entries second.accepted.entries ∙ sym second.names
