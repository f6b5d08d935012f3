use Rattle.std.specs.Prelude.{not, ◌==◌}
use Rattle.bib_text.specs.Places.{Longest}
use Rattle.bib_syntax.specs.Recovery.{Passed as passed}
use Rattle.bib_syntax.proofs.RecoveryFacts.{search_ends, search_more, search_smaller}
use Rattle.bib_syntax.proofs.raw.recovery.go_on.Goals as goal

pub search-init : goal.search-init
search-init c = passed.stop

pub returns-then-begins_line : goal.returns-then-begins_line
returns-then-begins_line c =
    let run : Longest (λ d. not (d == 64)) c.search.s c.eat_while.new.self =
    c.eat_while.ensures.longest (λ d. not (d == 64)) (λ x r post. post) in
    search_ends c.search.invariant run c.eat_while.ensures.stopped c.if-begins_line.ensures

pub search-smaller : goal.search-smaller
search-smaller c =
    let run : Longest (λ d. not (d == 64)) c.search.s c.eat_while.new.self =
    c.eat_while.ensures.longest (λ d. not (d == 64)) (λ x r post. post) in
    search_smaller c.eat.new.self c.eat.result run c.if-begins_line.ensures c.eat.ensures

pub search-preserved : goal.search-preserved
search-preserved c =
    let run : Longest (λ d. not (d == 64)) c.search.s c.eat_while.new.self =
    c.eat_while.ensures.longest (λ d. not (d == 64)) (λ x r post. post) in
    search_more c.eat.result c.search.invariant run c.if-begins_line.ensures c.eat.ensures
