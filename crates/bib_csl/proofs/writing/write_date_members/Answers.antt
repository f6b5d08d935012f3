use Rattle.std.proofs.Common.{◌++◌, ◌∙◌, ap}
use Rattle.bib_csl.specs.Tokens.{circa_tokens, dates_tokens, literal_tokens, season_tokens}
use Rattle.bib_csl.proofs.AppendFacts.{after}
use Rattle.bib_csl.proofs.writing.write_date_members.Goals as goal

pub returns-clause-written : goal.returns-clause-written
unfolding Rattle.bib_csl.specs.Tokens.date_tokens
returns-clause-written c =
    let d = c.args.date.now in
    let r = c.write_season.result in
    let end = c.write_season.new.out.tokens in
    let first = c.write_circa.new.out.tokens in
    let second = c.write_all_parts.new.out.tokens in
    let third = c.write_literal.new.out.tokens in
    let circa = circa_tokens d.circa in
    let dates = dates_tokens d.parts in
    let literal = literal_tokens d.literal in
    let season = season_tokens d.season in
    after r c.args.out.now.tokens first end circa (dates ++ (literal ++ season)) c.in_ok-write_circa.ensures.written
    (after r first second end dates (literal ++ season)
    (c.in_ok-write_all_parts.ensures.written ∙ ap (λ parts. first ++ dates_tokens parts) c.as_slice.ensures)
    (after r second third end literal season c.in_ok-write_literal.ensures.written c.write_season.ensures.written))
