use Rattle.std.specs.List.{flat_map}
use Rattle.json.specs.Token.{begin_object, end_object}
use Rattle.serde_json.specs.Data.{object}
use Rattle.bib_csl.specs.Tokens.{tokens_of, members_held, member_tokens}
use Rattle.bib_csl.proofs.TokenFacts.{framed, object_tokens}
use Rattle.bib_csl.proofs.writing.write_members.Goals as goal

pub returns-clause-written : goal.returns-clause-written
returns-clause-written c =
    framed c.end_object.result begin_object end_object c.args.out.now.tokens c.begin_object.new.self.tokens
    c.write_each_member.new.out.tokens c.end_object.new.self.tokens
    (flat_map (λ m. member_tokens m.0.now m.1) c.args.members.entries)
    (tokens_of (object (members_held c.args.members.entries))) c.in_ok-begin_object.ensures.ok
    c.in_ok-write_each_member.ensures.written c.end_object.ensures.ok (object_tokens c.args.members.entries)
