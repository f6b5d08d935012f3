use Rattle.std.proofs.Common.{rules, ap, sym, ◌∙◌}
use Rattle.bib_text.specs.Places.{Longest}
use Rattle.bib_syntax.specs.Characters.{is_id_continue}
use Rattle.biblatex.proofs.SettledFacts.{whole_run, identifier_whole, no_identifier, no_empty_identifier, never}
use Rattle.biblatex.proofs.settled_entry.is_identifier.Goals as goal

pub returns-in_default : goal.returns-in_default
returns-in_default c = never (no_empty_identifier (rw c.new-scanner.ensures at c.in_default.ensures.0))

pub returns-then-not-is_id_start : goal.returns-then-not-is_id_start
returns-then-not-is_id_start c = never (no_identifier (rw c.new-scanner.ensures at c.in-Some.ensures) (sym c.if-not-is_id_start.ensures))

pub returns : goal.returns
returns c =
    let longest : Longest is_id_continue c.eat.new.self c.eat_while.new.self = c.eat_while.ensures.longest _ (λ x r post. search rules) in
    let whole =
    whole_run c.args.text.now c.done.result (c.in-Some.ensures.same ∙ ap (λ p. p.text) c.new-scanner.ensures)
    longest c.done.ensures in
    identifier_whole c.args.text.now c.done.result (rw c.new-scanner.ensures at c.in-Some.ensures) (sym c.if-not-is_id_start.ensures) whole
