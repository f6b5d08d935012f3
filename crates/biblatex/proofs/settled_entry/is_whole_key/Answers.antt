use Rattle.std.proofs.Common.{rules, ap}
use Rattle.bib_text.specs.Places.{Longest}
use Rattle.bib_syntax.specs.Characters.{is_key}
use Rattle.biblatex.proofs.SettledFacts.{whole_run}
use Rattle.biblatex.proofs.settled_entry.is_whole_key.Goals as goal

pub returns : goal.returns
returns c =
    let longest : Longest is_key c.new-scanner.result c.eat_while.new.self = c.eat_while.ensures.longest _ (λ x r post. search rules) in
    let whole = whole_run c.args.text.now c.done.result (ap (λ p. p.text) c.new-scanner.ensures) longest c.done.ensures in
    rw c.new-scanner.ensures at whole
