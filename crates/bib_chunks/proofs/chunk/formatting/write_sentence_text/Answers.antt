use Rattle.std.proofs.lemmas.Grind.{common_steps}
use Rattle.std.proofs.Common.{◌∙◌, refl, arith}
use Rattle.std.specs.Prelude.{string_bytes}
use Rattle.bib_text.proofs.TextFacts.{less_after}
use Rattle.bib_chunks.proofs.FormattedFacts.{sentence_skip, sentence_step, sentence_end}
use Rattle.bib_chunks.proofs.chunk.formatting.write_sentence_text.Goals as goal

pub text-init : goal.text-init
text-init c = rw c.new-scanner.ensures (refl, c.utf8.text, refl, refl)

pub returns : goal.returns
returns c =
    let both =
    sentence_end (string_bytes c.text.out) _ c.text.scanner c.text.first c.text.after _ c.in_default.ensures.0
    c.text.invariant.2 c.text.invariant.3 in
    record { written = both.0; following = both.1 }

pub text-preserved-in_default-char_on_line : goal.text-preserved-in_default-char_on_line
text-preserved-in_default-char_on_line c =
    let step =
    sentence_skip (string_bytes c.text.out) _ c.text.first c.text.after _ c.char_on_line.result c.in-Some.ensures
    c.text.invariant.1 c.in_default-char_on_line.is c.char_on_line.ensures c.text.invariant.2 c.text.invariant.3 in
    (step.0 ∙ c.text.invariant.0, step.1, step.2, step.3)

pub text-smaller : goal.text-smaller
text-smaller c = less_after c.in-Some.ensures

pub text-preserved : goal.text-preserved
text-preserved c =
    let step = sentence_step (string_bytes c.text.out) (string_bytes c.write_cased.new.out) _ c.in-Some-char_on_line.shown
    c.text.first c.text.after c.is_whitespace-after.result _ c.char_on_line.result c.in-Some.ensures c.text.invariant.1
    c.in-Some-char_on_line.is c.char_on_line.ensures
    c.in_ok-write_cased.ensures c.is_whitespace-after.ensures c.text.invariant.2 c.text.invariant.3 in
    (step.0 ∙ c.text.invariant.0, step.1, step.2, step.3)

pub text-smaller-in_default-char_on_line : goal.text-smaller-in_default-char_on_line
text-smaller-in_default-char_on_line c = grind (arith, common_steps)
