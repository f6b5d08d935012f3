use Rattle.json.specs.Token.{begin_object, end_object}
use Rattle.serde_json.specs.Data.{object}
use Rattle.bib_csl.specs.Json.{date_members}
use Rattle.bib_csl.specs.Tokens.{tokens_of, date_tokens}
use Rattle.bib_csl.proofs.TokenFacts.{framed, date_ordered}
use Rattle.bib_csl.proofs.writing.write_date.Goals as goal

pub returns-clause-written : goal.returns-clause-written
returns-clause-written c =
    framed c.end_object.result begin_object end_object c.args.out.now.tokens c.begin_object.new.self.tokens
    c.write_date_members.new.out.tokens c.end_object.new.self.tokens
    (date_tokens c.args.date.now) (tokens_of (object (date_members c.args.date.now))) c.in_ok-begin_object.ensures.ok
    c.in_ok-write_date_members.ensures.written c.end_object.ensures.ok (date_ordered c.args.date.now)
