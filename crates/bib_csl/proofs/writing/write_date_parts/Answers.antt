use Rattle.std.proofs.Common.{◌≡◌, [], ◌∷◌, ◌++◌, ◌∙◌, ap, append_assoc, rules}
use Rattle.std.specs.Fmt.{signed_decimal}
use Rattle.json.specs.Token.{begin_array, end_array, number}
use Rattle.bib_csl.specs.Json.{date_parts_json}
use Rattle.bib_csl.specs.Tokens.{tokens_of, month_tokens}
use Rattle.bib_csl.proofs.TokenFacts.{framed, date_parts_ordered}
use Rattle.bib_csl.proofs.writing.write_date_parts.Goals as goal

pub returns-clause-written : goal.returns-clause-written
returns-clause-written c =
    let p = c.args.parts.now in
    let year = number (signed_decimal p.year) in
    let months = month_tokens p.month p.day in
    let opened = c.begin_array.new.self.tokens in
    let first : c.i64.new.self.tokens ≡ opened ++ year ∷ [] = search rules in
    framed c.end_array.result begin_array end_array c.args.out.now.tokens opened c.write_month.new.out.tokens c.end_array.new.self.tokens
    (year ∷ months) (tokens_of (date_parts_json p)) c.in_ok-begin_array.ensures.ok
    (c.in_ok-write_month.ensures.written ∙ ap (λ ts. ts ++ months) first ∙ append_assoc opened (year ∷ []) months)
    c.end_array.ensures.ok (date_parts_ordered p)
