use Rattle.std.proofs.Common.{◌≡◌, ap, ◌∙◌, sym, subst}
use Rattle.bib_text.specs.Places.{Place, place}
use Rattle.bib_syntax.specs.Reading.{empty_reading}
use Rattle.bib_syntax.specs.Recovering.{RecoveredTo}
use Rattle.bib_syntax.specs.Views.{file_of}
use Rattle.bib_syntax.proofs.RecoveryFacts.{all_recovered, nothing_recovered}
use Rattle.bib_syntax.proofs.raw.recovery.recover.Goals as goal

pub returns : goal.returns
returns c =
    let start : Place = place c.args.src.now c.args.start in
    let keeps = c.args.keeps_parts in
    let here : c.jump.new.self ≡ start = c.jump.ensures ∙ ap (λ p. place p.text c.args.start) (c.new-s.ensures ∙ c.new.ensures) in
    let none : RecoveredTo keeps start (file_of c.nothing-found.result.raw) c.nothing-found.result.skipped.items start =
    subst (λ r. RecoveredTo keeps start r c.nothing-found.result.skipped.items start) (sym c.nothing-found.ensures.content)
    (subst (λ xs. RecoveredTo keeps start empty_reading xs start) (sym c.nothing-found.ensures.skipped)
    (nothing_recovered keeps start)) in
    all_recovered _ _
    (c.in_ok-add_blocks.ensures.found start
    (subst (RecoveredTo keeps start (file_of c.nothing-found.result.raw) c.nothing-found.result.skipped.items) (sym here) none))
    c.in_ok-add_blocks.ensures.end
