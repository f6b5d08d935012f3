use Rattle.std.proofs.lemmas.Grind.{common_steps}
use Rattle.std.proofs.Common.{◌∙◌, ◌+◌, ◌≡◌, false, sym, arith, drop}
use native.Mathlib.Numerals.{unary_clauses}
use Rattle.std.proofs.lemmas.List.{drop_all}
use Rattle.std.proofs.lemmas.Str.{IsCharBoundary-from_drop}
use Rattle.std.specs.Str.{chars}
use Rattle.bib_text.specs.Places.{place, CharAt}
use Rattle.bib_text.proofs.PlaceFacts.{char_here}
use Rattle.bib_chunks.proofs.AndFacts.{searched_none, searched_char, searched_word, searched_all, no_word, not_spaced, word_here}
use Rattle.bib_chunks.proofs.chunk.cuts.first_and.Goals as goal
use Rattle.bib_chunks.proofs.chunk.cuts.first_and.Goals.{then-space+in_default, else-space}

pub text-init : goal.text-init
text-init c = searched_none c.args.text.now c.utf8.text

pub range_from-rest-requires : goal.range_from-rest-requires
range_from-rest-requires c = λ _. IsCharBoundary-from_drop c.args.text.now c.text.at (omega arith) c.text.invariant.passed.utf8

pub returns-in-Some : goal.returns-in-Some
returns-in-Some c =
    searched_word c.args.text.now c.text.at c.range.result.now c.in-Some.following.now
    (rw c.if-space.true at c.text.invariant) (simp unary_clauses at c.range.ensures.value) c.range.utf8
    (rw c.range_from-rest.ensures.value at c.in-Some.ensures)

pub text-preserved : goal.text-preserved
text-preserved c =
    let here = sym c.range_from-rest.ensures.value ∙ sym c.chars.ensures.rest ∙ c.in-Some-next.ensures.steps.0 in
    let char : CharAt (place c.args.text.now c.text.at) c.in-Some-next.c
    (place c.args.text.now (c.text.at + c.len_utf8-at.result)) =
    rw c.len_utf8-at.ensures.value (char_here c.args.text.now _ c.text.at c.in-Some-next.c here) in
    let none : word_here c.text.space (chars (drop c.text.at c.args.text.now)) ≡ false =
    elim c.if-space.branch [
      | then-space+in_default w ↦ no_word c.text.space (drop c.text.at c.args.text.now) c.text.invariant.passed.utf8
          (rw c.range_from-rest.ensures.value at w.in_default.ensures)
      | else-space w ↦ not_spaced c.text.space _ w.if-space.false
    ] in
    rw c.is_whitespace-space.ensures (searched_char c.args.text.now c.text.at _ c.in-Some-next.c c.text.space c.text.invariant char none)

pub returns : goal.returns
returns c = searched_all c.args.text.now c.text.at c.text.space c.text.invariant (drop_all c.text.at c.args.text.now (omega arith))

pub range-requires-clause-end_boundary : goal.range-requires-clause-end_boundary
range-requires-clause-end_boundary c = grind (arith, common_steps)
