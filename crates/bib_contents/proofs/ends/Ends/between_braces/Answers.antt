use Rattle.std.proofs.Common.{rules, arith, ◌≡◌, ◌∙◌, ◌≤◌, ◌-◌, ◌+◌, ◌∷◌, sym, ap, refl, length, replicate, reverse, append-nil}
use Rattle.std.proofs.lemmas.List.{nil_from_length}
use Rattle.bib_contents.proofs.ArgumentFacts.{is_no_brace}
use Rattle.bib_contents.proofs.EndFacts.{read_none, read_opened, read_closed, read_alone}
use Rattle.bib_contents.proofs.StackFacts.{reversed_push}
use Rattle.bib_contents.proofs.ends.Ends.between_braces.Goals as goal

pub eat_while-requires-clause-is_test : goal.eat_while-requires-clause-is_test
eat_while-requires-clause-is_test c = (is_no_brace, λ x r post. search rules)

pub braces-init : goal.braces-init
braces-init c =
    let within : c.args.s.at ≤ length c.args.s.text = rw (← c.cursor-start.ensures.place) c.cursor-start.ensures.boundary.0 in
    read_none refl c.cursor-start.ensures.place within
    (c.in_ok-places.ensures.items_if_clones_equal (λ y same. same)
    ∙ ap (λ n. replicate (n - c.cursor-start.result) 0) c.len.ensures) c.new-open.ensures.items

pub braces-preserved-in-Continue-branch-2 : goal.braces-preserved-in-Continue-branch-2
braces-preserved-in-Continue-branch-2 c =
    let run = c.eat_while.ensures.longest is_no_brace (λ x r post. search rules) in
    read_opened c.braces.invariant c.eat_while.ensures.passed run.0 c.in-Some.ensures c.if-brace-eq123.true
    (reversed_push c.push.new.self.items c.braces.open.items c.cursor.result c.in_ok-push.ensures.items
    ∙ ap (λ n. n ∷ reverse c.braces.open.items) c.cursor.ensures.place)

pub index_mut-requires : goal.index_mut-requires
index_mut-requires c =
    let run = c.eat_while.ensures.longest is_no_brace (λ x r post. search rules) in
    let closed =
    read_closed {rest = c.pop.new.self.items} c.braces.invariant c.eat_while.ensures.passed run.0 run.1
    c.in-Some.ensures c.if-brace-eq123.false
    (reversed_push c.braces.open.items c.pop.new.self.items c.in-Some-pop.begin c.in-Some-pop.ensures.items) in
    omega (arith, closed.1, c.braces.places.ok.0)

pub overflow_sub-begin : goal.overflow_sub-begin
overflow_sub-begin c =
    let run = c.eat_while.ensures.longest is_no_brace (λ x r post. search rules) in
    let closed =
    read_closed {rest = c.pop.new.self.items} c.braces.invariant c.eat_while.ensures.passed run.0 run.1
    c.in-Some.ensures c.if-brace-eq123.false
    (reversed_push c.braces.open.items c.pop.new.self.items c.in-Some-pop.begin c.in-Some-pop.ensures.items) in
    closed.0

pub braces-preserved-in-Some-pop : goal.braces-preserved-in-Some-pop
braces-preserved-in-Some-pop c =
    let run = c.eat_while.ensures.longest is_no_brace (λ x r post. search rules) in
    let closed =
    read_closed {rest = c.pop.new.self.items} c.braces.invariant c.eat_while.ensures.passed run.0 run.1
    c.in-Some.ensures c.if-brace-eq123.false
    (reversed_push c.braces.open.items c.pop.new.self.items c.in-Some-pop.begin c.in-Some-pop.ensures.items) in
    rw c.cursor-end.ensures.place closed.2

pub braces-preserved : goal.braces-preserved
braces-preserved c =
    let none = nil_from_length c.braces.open.items (omega (arith, c.in_default-pop.ensures.cases.0, c.braces.open.ok.0)) in
    read_alone c.braces.invariant c.eat_while.ensures.passed c.in-Some.ensures
    (sym (append-nil c.pop.new.self.items) ∙ sym c.in_default-pop.ensures.items ∙ none)
