use Rattle.std.proofs.Common.{◌∙◌, refl, rules}
use Rattle.std.specs.Prelude.{string_bytes}
use Rattle.bib_text.specs.Places.{Longest, between}
use Rattle.bib_chunks.specs.Writing.{is_bare}
use Rattle.bib_text.proofs.TextFacts.{less_left, pushed_part}
use Rattle.bib_chunks.proofs.WrittenFacts.{written_run_char, written_run_end}
use Rattle.bib_chunks.proofs.chunk.writing.write_text.Goals as goal

pub text-init : goal.text-init
text-init c = rw c.new-scanner.ensures (refl, c.utf8.text, refl)

pub returns-in_default : goal.returns-in_default
returns-in_default c =
    let longest : Longest (is_bare c.args.is_verbatim) c.text.scanner c.eat_while.new.self =
    c.eat_while.ensures.longest _ (λ x r post. search rules) in
    written_run_end (string_bytes c.text.out) _ _ c.args.is_verbatim longest.run c.text.invariant.1 c.in_default.ensures.0
    (pushed_part _ _ _ _ (between c.text.scanner c.eat_while.new.self) c.in_ok-push_str.was c.push_str.ensures.bytes
    c.eat_while.ensures.eaten)
    c.text.invariant.2

pub text-smaller : goal.text-smaller
text-smaller c =
    let longest : Longest (is_bare c.args.is_verbatim) c.text.scanner c.eat_while.new.self =
    c.eat_while.ensures.longest _ (λ x r post. search rules) in
    less_left longest.run c.in-Some.ensures

pub text-preserved : goal.text-preserved
text-preserved c =
    let longest : Longest (is_bare c.args.is_verbatim) c.text.scanner c.eat_while.new.self =
    c.eat_while.ensures.longest _ (λ x r post. search rules) in
    let step = written_run_char (string_bytes c.text.out) (string_bytes c.push_str.new.self)
    (string_bytes c.write_char.new.out) _ c.args.is_verbatim longest.run c.text.invariant.1 c.in-Some.ensures
    (pushed_part _ _ _ _ (between c.text.scanner c.eat_while.new.self) c.in_ok-push_str.was c.push_str.ensures.bytes
    c.eat_while.ensures.eaten)
    c.in_ok-write_char.ensures
    c.text.invariant.2 in
    (step.0 ∙ c.text.invariant.0, step.1, step.2)
