use Rattle.std.proofs.Common.{◌∙◌, sym, ap, rules}
use Rattle.std.specs.Prelude.{encode_utf8_all}
use Rattle.std.specs.Str.{chars}
use Rattle.std.proofs.lemmas.Str.{encodes-chars}
use Rattle.bib_text.specs.Places.{Longest}
use Rattle.bib_text.proofs.ScannedFacts.{eaten_rest, boundary_there}
use Rattle.bib_csl.specs.Sentence.{text_after_word, continues_word}
use Rattle.bib_csl.proofs.sentence.text_after_word.Goals as goal

pub range_from-requires : goal.range_from-requires
range_from-requires c =
    let longest : Longest continues_word c.new-scanner.result c.eat_while.new.self =
    c.eat_while.ensures.longest _ (λ x r post. search rules) in
    λ some. boundary_there c.cursor-at.result c.args.text.now c.new-scanner.ensures c.utf8.text longest c.cursor-at.ensures.boundary

pub returns : goal.returns
unfolding text_after_word
returns c =
    let longest : Longest continues_word c.new-scanner.result c.eat_while.new.self =
    c.eat_while.ensures.longest _ (λ x r post. search rules) in
    sym (encodes-chars c.range_from.result.now c.range_from.utf8)
    ∙ ap encode_utf8_all
    (ap chars c.range_from.ensures.value
    ∙ eaten_rest continues_word c.args.text.now c.cursor-at.result c.new-scanner.ensures c.utf8.text longest
    c.cursor-at.ensures.place)
