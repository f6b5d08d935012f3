use Rattle.std.proofs.Common.{map}
use Rattle.std.specs.List.{flat_map}
use Rattle.json.specs.Token.{begin_array, end_array}
use Rattle.serde_json.specs.Data.{array}
use Rattle.serde_json.specs.View.{items_of}
use Rattle.bib_csl.specs.Json.{date_parts_json}
use Rattle.bib_csl.specs.Tokens.{tokens_of}
use Rattle.bib_csl.proofs.TokenFacts.{framed, array_tokens}
use Rattle.bib_csl.proofs.writing.write_dates.Goals as goal

pub returns-clause-written : goal.returns-clause-written
returns-clause-written c =
    framed c.end_array.result begin_array end_array c.args.out.now.tokens c.begin_array.new.self.tokens
    c.write_each_date.new.out.tokens c.end_array.new.self.tokens
    (flat_map (λ x. tokens_of (date_parts_json x)) c.args.dates.now)
    (tokens_of (array (items_of (map date_parts_json c.args.dates.now)))) c.in_ok-begin_array.ensures.ok
    c.in_ok-write_each_date.ensures.written c.end_array.ensures.ok (array_tokens date_parts_json c.args.dates.now)
