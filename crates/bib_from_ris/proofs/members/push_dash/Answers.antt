use Rattle.std.proofs.Common.{rules}
use Rattle.bib_from_ris.proofs.members.push_dash.Goals as goal

pub returns : goal.returns
unfolding lib.Utf8.encode
returns c = search rules
