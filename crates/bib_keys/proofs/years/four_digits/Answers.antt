use Rattle.std.proofs.lemmas.Grind.{common_steps}
use Rattle.std.proofs.Common.{◌≡◌, ◌∙◌, ◌<◌, ap, drop, sym, subst, take, true, length, arith}
use Rattle.std.specs.Prelude.{IsAscii}
use Rattle.bib_keys.specs.Years.{begins_with_year}
use Rattle.bib_keys.proofs.YearFacts.{begins_there, four_more, year_ascii, year_ends, year_found, year_skipped}
use Rattle.bib_keys.proofs.years.four_digits.Goals as goal

pub range-requires-clause-end_boundary : goal.range-requires-clause-end_boundary
range-requires-clause-end_boundary c =
    year_ends c.args.text.now c.starts.start c.utf8.text
    (begins_there c.as_bytes-bytes.result.now c.args.text.now c.starts.start _ _ c.as_bytes-bytes.ensures.value
    c.begins_with_year.ensures c.if-begins_with_year.true)

pub returns-then-begins_with_year-clause-digits : goal.returns-then-begins_with_year-clause-digits
returns-then-begins_with_year-clause-digits c =
    let rest = drop c.starts.start c.args.text.now in
    let begins : begins_with_year rest ≡ true =
    begins_there c.as_bytes-bytes.result.now c.args.text.now c.starts.start _ _ c.as_bytes-bytes.ensures.value
    c.begins_with_year.ensures c.if-begins_with_year.true in
    c.range.ensures.value ∙ ap (λ n. take n rest) (four_more c.starts.start) ∙ sym (c.starts.invariant ∙ year_found rest begins)

pub returns-then-begins_with_year-clause-ascii : goal.returns-then-begins_with_year-clause-ascii
returns-then-begins_with_year-clause-ascii c =
    let rest = drop c.starts.start c.args.text.now in
    let begins : begins_with_year rest ≡ true =
    begins_there c.as_bytes-bytes.result.now c.args.text.now c.starts.start _ _ c.as_bytes-bytes.ensures.value
    c.begins_with_year.ensures c.if-begins_with_year.true in
    subst IsAscii (sym (c.range.ensures.value ∙ ap (λ n. take n rest) (four_more c.starts.start))) (year_ascii rest begins)

pub starts-preserved : goal.starts-preserved
starts-preserved c =
    let text = c.args.text.now in
    c.starts.invariant
    ∙ year_skipped text c.starts.start (subst (λ l. c.starts.start < length l) c.as_bytes-bytes.ensures.value c.starts-test.true)
    (begins_there c.as_bytes-bytes.result.now c.args.text.now c.starts.start _ _ c.as_bytes-bytes.ensures.value
    c.begins_with_year.ensures c.if-begins_with_year.false)

pub returns-clause-digits : goal.returns-clause-digits
returns-clause-digits c = grind (arith, common_steps)

pub range-requires-clause-start_boundary : goal.range-requires-clause-start_boundary
range-requires-clause-start_boundary c = grind (arith, common_steps)
