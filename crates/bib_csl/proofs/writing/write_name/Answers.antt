use Rattle.json.specs.Token.{begin_object, end_object}
use Rattle.bib_csl.specs.Json.{name_json}
use Rattle.bib_csl.specs.Tokens.{tokens_of, name_tokens}
use Rattle.bib_csl.proofs.TokenFacts.{framed, name_ordered}
use Rattle.bib_csl.proofs.writing.write_name.Goals as goal

pub returns-clause-written : goal.returns-clause-written
returns-clause-written c =
    framed c.end_object.result begin_object end_object c.args.out.now.tokens c.begin_object.new.self.tokens
    c.write_name_members.new.out.tokens c.end_object.new.self.tokens
    (name_tokens c.args.name.now) (tokens_of (name_json c.args.name.now)) c.in_ok-begin_object.ensures.ok
    c.in_ok-write_name_members.ensures.written c.end_object.ensures.ok (name_ordered c.args.name.now)
