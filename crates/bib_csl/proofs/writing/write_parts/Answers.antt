use Rattle.std.proofs.Common.{◌++◌, codes}
use Rattle.bib_csl.specs.Tokens.{text_tokens}
use Rattle.bib_csl.proofs.AppendFacts.{after}
use Rattle.bib_csl.proofs.writing.write_parts.Goals as goal

pub returns-clause-written : goal.returns-clause-written
unfolding Rattle.bib_csl.specs.Tokens.parts_tokens
returns-clause-written c =
    let p = c.args.parts.now in
    let r = c.write_text-5.result in
    let end = c.write_text-5.new.out.tokens in
    let first = c.write_text.new.out.tokens in
    let second = c.write_text-2.new.out.tokens in
    let third = c.write_text-3.new.out.tokens in
    let fourth = c.write_text-4.new.out.tokens in
    let dropping = text_tokens (codes "dropping-particle") p.dropping_particle in
    let family = text_tokens (codes "family") p.family in
    let given = text_tokens (codes "given") p.given in
    let kept = text_tokens (codes "non-dropping-particle") p.non_dropping_particle in
    let suffix = text_tokens (codes "suffix") p.suffix in
    after r c.args.out.now.tokens first end dropping (family ++ (given ++ (kept ++ suffix))) c.in_ok-write_text.ensures.written
    (after r first second end family (given ++ (kept ++ suffix)) c.in_ok-write_text-2.ensures.written
    (after r second third end given (kept ++ suffix) c.in_ok-write_text-3.ensures.written
    (after r third fourth end kept suffix c.in_ok-write_text-4.ensures.written c.write_text-5.ensures.written)))
