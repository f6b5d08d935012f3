use Rattle.std.proofs.Common.{◌∙◌, refl, rules}
use Rattle.std.specs.Prelude.{string_bytes}
use Rattle.bib_text.specs.Places.{Longest}
use Rattle.bib_text.proofs.TextFacts.{less_left, pushed_part}
use Rattle.bib_chunks.specs.Formatted.{is_unbroken}
use Rattle.bib_chunks.proofs.FormattedFacts.{flowing_step, flowing_end}
use Rattle.bib_chunks.proofs.chunk.formatting.write_flowing.Goals as goal

pub text-init : goal.text-init
text-init c = rw c.new-scanner.ensures (refl, c.utf8.text, refl, refl)

pub returns-in_default : goal.returns-in_default
returns-in_default c =
    let longest : Longest is_unbroken c.text.scanner c.eat_while-run.new.self =
    c.eat_while-run.ensures.longest _ (λ x r post. search rules) in
    let both = flowing_end (string_bytes c.text.out) (string_bytes c.push_str.new.self) _ c.eat_while-run.result.now
    c.text.after c.ends_in_space-after.result _ longest c.text.invariant.1 c.eat_while-run.utf8
    c.eat_while-run.ensures.eaten c.in_default.ensures.0
    (pushed_part _ _ _ _ c.eat_while-run.result.now c.in_ok-push_str.was c.push_str.ensures.bytes refl)
    c.ends_in_space-after.ensures c.text.invariant.2 c.text.invariant.3 in
    record { written = both.0; following = both.1 }

pub text-smaller : goal.text-smaller
text-smaller c =
    let longest : Longest is_unbroken c.text.scanner c.eat_while-run.new.self =
    c.eat_while-run.ensures.longest _ (λ x r post. search rules) in
    less_left longest.run c.in-Some.ensures

pub text-preserved : goal.text-preserved
text-preserved c =
    let longest : Longest is_unbroken c.text.scanner c.eat_while-run.new.self =
    c.eat_while-run.ensures.longest _ (λ x r post. search rules) in
    let step = flowing_step (string_bytes c.text.out) (string_bytes c.push_str.new.self)
    (string_bytes c.write_break.new.out) _ c.eat_while-run.result.now c.text.after c.ends_in_space-after.result _
    longest c.text.invariant.1 c.eat_while-run.utf8 c.eat_while-run.ensures.eaten c.in-Some.ensures
    (pushed_part _ _ _ _ c.eat_while-run.result.now c.in_ok-push_str.was c.push_str.ensures.bytes refl)
    c.ends_in_space-after.ensures c.in_ok-write_break.ensures c.text.invariant.2 c.text.invariant.3 in
    (step.0 ∙ c.text.invariant.0, step.1, step.2, step.3)
