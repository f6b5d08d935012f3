use Rattle.std.proofs.Common.{◌∙◌, ap, rules}
use Rattle.std.specs.Char.{is_ascii_digit}
use Rattle.std.specs.Str.{chars}
use Rattle.bib_text.specs.Places.{Longest}
use Rattle.bib_text.proofs.ScannedFacts.{eaten_rest, eaten_digits, boundary_there}
use Rattle.bib_values.proofs.ranges.digits.Goals as goal

pub range_from-requires : goal.range_from-requires
range_from-requires c =
    let longest : Longest is_ascii_digit c.new-scanner.result c.eat_while-run.new.self =
    c.eat_while-run.ensures.longest _ (λ x r post. search rules) in
    λ some. boundary_there c.cursor-at.result c.args.text.now c.new-scanner.ensures c.utf8.text longest c.cursor-at.ensures.boundary

pub returns-clause-digits : goal.returns-clause-digits
returns-clause-digits c =
    let longest : Longest is_ascii_digit c.new-scanner.result c.eat_while-run.new.self =
    c.eat_while-run.ensures.longest _ (λ x r post. search rules) in
    c.eat_while-run.ensures.eaten ∙ eaten_digits c.args.text.now c.new-scanner.ensures c.utf8.text longest

pub returns-clause-rest : goal.returns-clause-rest
returns-clause-rest c =
    let longest : Longest is_ascii_digit c.new-scanner.result c.eat_while-run.new.self =
    c.eat_while-run.ensures.longest _ (λ x r post. search rules) in
    ap chars c.range_from.ensures.value
    ∙ eaten_rest is_ascii_digit c.args.text.now c.cursor-at.result c.new-scanner.ensures c.utf8.text longest
    c.cursor-at.ensures.place
