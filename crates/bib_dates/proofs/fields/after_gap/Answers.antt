use Rattle.std.proofs.Common.{◌∙◌, sym, ap, rules}
use Rattle.std.specs.Str.{chars}
use Rattle.std.specs.Prelude.{encode_utf8_all}
use Rattle.std.proofs.lemmas.Str.{encodes-chars}
use Rattle.bib_text.specs.Places.{Longest}
use Rattle.bib_text.proofs.ScannedFacts.{eaten_rest, boundary_there}
use Rattle.bib_dates.specs.ThreeFields.{is_separator}
use Rattle.bib_dates.proofs.fields.after_gap.Goals as goal

pub range_from-requires : goal.range_from-requires
range_from-requires c =
    let longest : Longest is_separator c.new-scanner.result c.eat_while.new.self =
    c.eat_while.ensures.longest _ (λ x r post. search rules) in
    λ some. boundary_there c.cursor-at.result c.args.text.now c.new-scanner.ensures c.utf8.text longest c.cursor-at.ensures.boundary

pub returns : goal.returns
returns c =
    let longest : Longest is_separator c.new-scanner.result c.eat_while.new.self =
    c.eat_while.ensures.longest _ (λ x r post. search rules) in
    sym (encodes-chars c.range_from.result.now c.range_from.utf8)
    ∙ ap encode_utf8_all
    (ap chars c.range_from.ensures.value
    ∙ eaten_rest is_separator c.args.text.now c.cursor-at.result c.new-scanner.ensures c.utf8.text longest
    c.cursor-at.ensures.place)
