use Rattle.std.proofs.Common.{◌≡◌, ◌∷◌, [], ◌++◌, ◌+◌, refl, inl, inr, arith, length, rules}
use Rattle.std.specs.Prelude.{encode_utf8_all}
use Rattle.std.specs.Str.{chars}
use Rattle.std.proofs.lemmas.Result.{err_from_is_err_and}
use Rattle.bib_contents.specs.Progress.{left}
use Rattle.bib_contents.specs.UnitViews.{text_unit_of}
use Rattle.bib_contents.specs.declared.growing.OpenChunk.{OpenChunk}
use Rattle.bib_contents.proofs.ArgumentReading.{no_inner_text, holds_none}
use Rattle.bib_contents.proofs.TakingFacts.{as_text, took_text, took_applied, took_formula, took_opening, took_closing, formula_wide, placed_after}
use Rattle.bib_contents.proofs.contents.take.Goals as goal
use Rattle.bib_contents.proofs.contents.take.Goals.{in-Shown+in_ok-write_unit-in-Shown, in-Applied+in_ok-write_applied-in-Applied, in-Formula+in_ok-finish_before_math-in-Formula, in-Opening+in_ok-finish_chunk-in-Opening, in-Closing+else-growing-eq0+in_ok-finish_chunk-in-Closing}

pub returns-clause-ok : goal.returns-clause-ok
returns-clause-ok c =
    let end = c.saturating_add-end.ensures in
    let following = c.saturating_add-following.ensures in
    let wide = c.requires.place.spelt in
    record {
      taken =
          elim c.match-unit.branch [
            | in-Shown+in_ok-write_unit-in-Shown w ↦
                let grown : OpenChunk =
                record {
                  text = w.write_unit.new.text;
                  depth = c.args.growing.now.depth;
                  start = c.args.growing.now.start;
                  is_first = c.args.growing.now.is_first;
                } in
                rw (w.out-is, w.growing-is, w.in-Shown.is)
                (took_text w.in-Shown.shown c.args.growing.now grown c.args.out.now []
                (λ argument holds. holds_none (text_unit_of w.in-Shown.shown) argument (no_inner_text w.in-Shown.shown) holds)
                (as_text _ _ w.in-Shown.shown w.in_ok-write_unit-in-Shown.ensures) refl)
            | in-Applied+in_ok-write_applied-in-Applied w ↦
                let read = w.in_ok-write_applied-in-Applied.ensures.read in
                let grown : OpenChunk =
                record {
                  text = w.write_applied.new.text;
                  depth = c.args.growing.now.depth;
                  start = c.args.growing.now.start;
                  is_first = c.args.growing.now.is_first;
                } in
                rw (w.out-is, w.growing-is, w.in-Applied.is)
                (took_applied (chars w.in-Applied.name.now) (chars w.in-Applied.field-1.now) (left w.in-Applied.inside)
                c.args.growing.now grown c.args.out.now read.0 read.1 read.2 refl)
            | in-Formula+in_ok-finish_before_math-in-Formula w ↦
                let did = w.in_ok-finish_before_math-in-Formula.ensures in
                rw (w.out-is, w.growing-is, w.in-Formula.is)
                (took_formula (chars w.in-Formula.text.now) c.args.growing.now.depth w.finish_before_math.new.growing _
                w.finish_before_math.new.out did.begun.0 did.begun.1 did.atoms)
            | in-Opening+in_ok-finish_chunk-in-Opening w ↦
                let did = w.in_ok-finish_chunk-in-Opening.ensures in
                rw (w.out-is, w.growing-is, w.in-Opening.is)
                (took_opening c.args.growing.now.depth w.finish_chunk.new.growing _ w.finish_chunk.new.out did.begun.0
                did.begun.1 did.atoms)
            | in-Closing+else-growing-eq0+in_ok-finish_chunk-in-Closing w ↦
                let did = w.in_ok-finish_chunk-in-Closing.ensures in
                rw (w.out-is, w.growing-is, w.in-Closing.is)
                (took_closing c.args.growing.now.depth w.finish_chunk-in-Closing.new.growing _
                w.finish_chunk-in-Closing.new.out w.if-growing-eq0.false did.begun.0 did.begun.1 did.atoms)
          ];
      joined = search rules;
      placed = λ low placed before.
          elim c.match-unit.branch [
            | in-Shown+in_ok-write_unit-in-Shown w ↦ rw (w.out-is, w.growing-is) (placed, omega (arith, before, wide))
            | in-Applied+in_ok-write_applied-in-Applied w ↦ rw (w.out-is, w.growing-is) (placed, omega (arith, before, wide))
            | in-Formula+in_ok-finish_before_math-in-Formula w ↦
                let did = w.in_ok-finish_before_math-in-Formula.ensures in
                let least = formula_wide (chars w.in-Formula.text.now) in
                let spelt : c.args.span.end
                ≡ c.args.span.start + length (encode_utf8_all (36 ∷ (chars w.in-Formula.text.now ++ 36 ∷ []))) =
                rw w.in-Formula.is at wide in
                let first = w.saturating_add-first.ensures in
                let last = w.saturating_add-last.ensures in
                let math = did.placed low placed (rw end before) (omega (arith, end, first)) (omega (arith, first, last, spelt, least)) in
                rw (w.out-is, w.growing-is, ← following)
                (placed_after low _ c.saturating_add-following.result _ _ math (omega (arith, last, following))
                did.begun.2)
            | in-Opening+in_ok-finish_chunk-in-Opening w ↦
                let did = w.in_ok-finish_chunk-in-Opening.ensures in
                rw (w.out-is, w.growing-is, ← following)
                (placed_after low _ c.saturating_add-following.result _ _ (did.placed low placed (rw end before))
                (omega (arith, end, following, wide)) did.begun.2)
            | in-Closing+else-growing-eq0+in_ok-finish_chunk-in-Closing w ↦
                let did = w.in_ok-finish_chunk-in-Closing.ensures in
                rw (w.out-is, w.growing-is, ← following)
                (placed_after low _ c.saturating_add-following.result _ _ (did.placed low placed (rw end before))
                (omega (arith, end, following, wide)) did.begun.2)
          ];
    }

pub returns-in_err-write_applied-in-Applied-clause-err : goal.returns-in_err-write_applied-in-Applied-clause-err
returns-in_err-write_applied-in-Applied-clause-err c =
    let p =
    err_from_is_err_and c.from_residual-in_err-write_applied-in-Applied.result
    c.from_residual-in_err-write_applied-in-Applied.ensures.1 in
    rw (p.1, p.2) (record {
      refused = elim c.in_err-write_applied-in-Applied.ensures.err.refused [
        | inl memory ↦ inl memory
        | inr fails ↦ inr (inr (left c.in-Applied.inside, rw c.in-Applied.is refl, fails))
      ];
      within = search rules;
    })
