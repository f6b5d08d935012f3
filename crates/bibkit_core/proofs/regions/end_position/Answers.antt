use Rattle.std.proofs.Common.{◌<◌, ◌+◌, ◌-◌, ◌^◌, length, arith, ap, ◌∙◌}
use Rattle.std.proofs.lemmas.Grind.{common_steps}
use Rattle.bibkit_core.proofs.RegionFacts.{joined_at}
use Rattle.bib_source.specs.Positions.{position_at}
use Rattle.bibkit_core.specs.Joining.{joined_position}
use Rattle.bibkit_core.proofs.regions.end_position.Goals as goal

pub returns-in-Some : goal.returns-in-Some
returns-in-Some c =
    let small : length c.args.bytes.now + 1 < 2 ^ 64 = grind (arith, common_steps) in
    let joins = joined_at c.args.bytes.now c.in-Some.rest.now c.args.span.now.start c.args.span.now.end small in
    c.joined_position.ensures ∙ ap (λ p. joined_position p c.position.result) c.requires
    ∙ ap (joined_position (position_at c.args.bytes.now c.args.span.now.start))
    (c.position.ensures.found ∙ ap (λ b. position_at b (c.args.span.now.end - c.args.span.now.start)) c.of_bytes.ensures)
    ∙ joins c.in-Some.ensures.lookup.0.2 c.if-span.true
