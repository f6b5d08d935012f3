use Rattle.std.proofs.Common.{◌∙◌, ap}
use Rattle.bib_csl.specs.Tokens.{members_held}
use Rattle.bib_csl.proofs.TokenFacts.{held_put}
use Rattle.bib_csl.proofs.members.put_member.Goals as goal

pub returns : goal.returns
returns c = ap members_held c.in_ok-insert.ensures.entries ∙ held_put c.args.members.now.entries c.args.name c.args.held
