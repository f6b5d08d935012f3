use Rattle.std.proofs.Common.{◌∙◌, ap, rules}
use Rattle.std.specs.Prelude.{◌==◌}
use Rattle.std.specs.Str.{chars}
use Rattle.bib_text.specs.Places.{Longest}
use Rattle.bib_text.proofs.ScannedFacts.{eaten_rest, boundary_there}
use Rattle.bib_values.proofs.ranges.after_hyphens.Goals as goal

pub range_from-requires : goal.range_from-requires
range_from-requires c =
    let longest : Longest (λ x. x == 45) c.new-scanner.result c.eat_while-hyphens.new.self =
    c.eat_while-hyphens.ensures.longest _ (λ x r post. search rules) in
    λ some. boundary_there c.cursor-at.result c.args.text.now c.new-scanner.ensures c.utf8.text longest c.cursor-at.ensures.boundary

pub returns : goal.returns
returns c =
    let longest : Longest (λ x. x == 45) c.new-scanner.result c.eat_while-hyphens.new.self =
    c.eat_while-hyphens.ensures.longest _ (λ x r post. search rules) in
    ap chars c.range_from.ensures.value
    ∙ eaten_rest (λ x. x == 45) c.args.text.now c.cursor-at.result c.new-scanner.ensures c.utf8.text longest
    c.cursor-at.ensures.place
