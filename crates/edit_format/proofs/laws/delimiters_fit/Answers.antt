use Rattle.edit_format.proofs.DelimiterFacts.{braces_decided, quotes_decided}
use Rattle.edit_format.proofs.laws.delimiters_fit.Goals as goal

pub returns-clause-braces : goal.returns-clause-braces
returns-clause-braces c text x = braces_decided text x

pub returns-clause-quotes : goal.returns-clause-quotes
returns-clause-quotes c text x = quotes_decided text x
