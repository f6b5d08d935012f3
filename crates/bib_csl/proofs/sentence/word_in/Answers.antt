use Rattle.std.proofs.Common.{◌∙◌, rules}
use Rattle.bib_text.specs.Places.{Longest}
use Rattle.bib_text.proofs.ScannedFacts.{eaten_new}
use Rattle.bib_csl.specs.Sentence.{word_in, continues_word}
use Rattle.bib_csl.proofs.sentence.word_in.Goals as goal

pub returns : goal.returns
unfolding word_in
returns c =
    let longest : Longest continues_word c.new-scanner.result c.eat_while.new.self =
    c.eat_while.ensures.longest _ (λ x r post. search rules) in
    c.eat_while.ensures.eaten ∙ (eaten_new continues_word c.args.text.now c.new-scanner.ensures c.utf8.text longest).1
