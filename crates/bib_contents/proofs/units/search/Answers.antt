use Rattle.std.proofs.Common.{rules, arith}
use Rattle.bib_contents.proofs.ArgumentFacts.{is_no_brace, braced_never, braced_opened, braced_closed, braced_encloses, braced_bound, passes_within}
use Rattle.bib_contents.proofs.units.search.Goals as goal

pub eat_while-requires-clause-is_test : goal.eat_while-requires-clause-is_test
eat_while-requires-clause-is_test c = (is_no_brace, λ x r post. search rules)

pub returns-in_default-clause-found : goal.returns-in_default-clause-found
returns-in_default-clause-found c =
    let run = c.eat_while.ensures.longest is_no_brace (λ x r post. search rules) in
    braced_never c.braces.invariant.0 c.eat_while.ensures.passed run.0 c.in_default.ensures.0

pub overflow_add-depth : goal.overflow_add-depth
overflow_add-depth c =
    let fits =
    braced_bound c.braces.invariant.0 (rw (← c.cursor-start.ensures.place) c.cursor-start.ensures.boundary.0)
    c.cursor-start.ensures.fits c.braces.invariant.1 in
    omega (arith, fits)

pub braces-preserved-then-brace-eq123 : goal.braces-preserved-then-brace-eq123
braces-preserved-then-brace-eq123 c =
    let run = c.eat_while.ensures.longest is_no_brace (λ x r post. search rules) in
    braced_opened c.braces.invariant.0 c.braces.invariant.1 c.eat_while.ensures.passed run.0 c.in-Some.ensures c.if-brace-eq123.true

pub returns-then-depth-eq0-clause-found : goal.returns-then-depth-eq0-clause-found
returns-then-depth-eq0-clause-found c =
    let run = c.eat_while.ensures.longest is_no_brace (λ x r post. search rules) in
    braced_encloses c.cursor-start.result c.braces.invariant.0 c.if-depth-eq0.true c.eat_while.ensures.passed run.0
    run.1 c.in-Some.ensures c.if-brace-eq123.false c.back_to-inside.ensures.place c.cursor-start.ensures.place
    c.back_to-inside.ensures.utf8
    (passes_within c.eat_while.ensures.passed
    (passes_within c.braces.invariant.0.passed
    (rw (← c.cursor-start.ensures.place) c.cursor-start.ensures.boundary.0)))

pub braces-preserved : goal.braces-preserved
braces-preserved c =
    let run = c.eat_while.ensures.longest is_no_brace (λ x r post. search rules) in
    braced_closed c.braces.invariant.0 c.braces.invariant.1 c.eat_while.ensures.passed run.0 run.1 c.in-Some.ensures
    c.if-brace-eq123.false c.if-depth-eq0.false
