use Rattle.std.proofs.Common.{ap, map, sym, ◌∙◌}
use Rattle.std.specs.Prelude.{option_and_then, slice_get}
use Rattle.std.specs.BTreeMap.{get_by_text}
use Rattle.bib_syntax.specs.Views.{entry_reading_of}
use Rattle.bib_findings.specs.Seen.{alike_by}
use Rattle.bib_findings.proofs.SeenFacts.{among_here, still_some}
use Rattle.bib_findings.proofs.duplicates.same_work.Goals as goal

pub returns-then-is_some-clause-first : goal.returns-then-is_some-clause-first
returns-then-is_some-clause-first c =
    let said = map entry_reading_of c.args.said.now in
    let given = alike_by (get_by_text c.args.seen.now) said (entry_reading_of c.args.one.now) in
    among_here given c.args.identities.now c.identities.identity-index c.identity-item.result
    (option_and_then (slice_get said) c.in_ok-first.first) c.identities-test.true c.identity-item.is c.identities.invariant
    (c.in_ok-first.ensures.first ∙ ap given c.as_str.ensures.value)
    (still_some c.args.said.now c.args.one.now c.in_ok-first.first c.in_ok-first.ensures.there
    (sym c.is_some.ensures ∙ c.if-is_some.true))
