use Rattle.std.proofs.Common.{◌≡◌, ◌+◌, ◌<◌, ◌≤◌, ◌^◌, ap, sym, ◌∙◌, refl, inl, inr, arith, length}
use Rattle.std.specs.Prelude.{encode_utf8_all}
use Rattle.std.proofs.lemmas.Result.{err_from_is_err_and}
use Rattle.bib_contents.specs.Contents.{unit_spelling}
use Rattle.bib_contents.specs.Progress.{left}
use Rattle.bib_contents.specs.UnitViews.{unit_of}
use Rattle.bib_contents.specs.declared.growing.OpenChunk.{OpenChunk}
use Rattle.bib_contents.proofs.ArgumentFacts.{passes_shorter}
use Rattle.bib_contents.proofs.FailFacts.{fails_kind, fails_stuck, fails_taken, fails_unit}
use Rattle.bib_contents.proofs.ReaderFacts.{unit_shorter}
use Rattle.bib_contents.proofs.ReadingContents.{Reading, reading_none, reading_plain, reading_unit, reading_all, reading_ends, unit_place}
use Rattle.bib_contents.proofs.TakingFacts.{stands_at, unit_named}
use Rattle.bib_contents.proofs.contents.contents.Goals as goal

pub units-init : goal.units-init
units-init c =
    reading_none c.args.is_verbatim c.args.text.now c.args.offset c.args.out.now c.new-s.result _ c.new-s.ensures
    (omega (arith, c.ranges.offset.fits)) refl refl c.in_ok-with_capacity.ensures.bytes

pub returns-then-done-clause-read : goal.returns-then-done-clause-read
returns-then-done-clause-read c =
    let was = c.units.growing in
    let grown : OpenChunk = record { text = c.write_plain.new.text; depth = was.depth; start = was.start; is_first = was.is_first } in
    let run : Reading c.args.is_verbatim c.args.text.now c.args.offset c.args.out.now c.write_plain.new.s grown c.units.out =
    reading_plain was grown c.units.invariant c.in_ok-write_plain.ensures refl refl in
    reading_all grown _ run c.if-done.ensures c.in_ok-finish.ensures.atoms

pub returns-then-done-clause-placed : goal.returns-then-done-clause-placed
returns-then-done-clause-placed c low placed =
    let was = c.units.growing in
    let grown : OpenChunk = record { text = c.write_plain.new.text; depth = was.depth; start = was.start; is_first = was.is_first } in
    let run : Reading c.args.is_verbatim c.args.text.now c.args.offset c.args.out.now c.write_plain.new.s grown c.units.out =
    reading_plain was grown c.units.invariant c.in_ok-write_plain.ensures refl refl in
    let ends = reading_ends grown run low placed in
    rw c.saturating_add-end.ensures at (c.in_ok-finish.ensures.placed low ends.0 (rw c.saturating_add-end.ensures ends.1))

pub returns-in_default-clause-refused : goal.returns-in_default-clause-refused
returns-in_default-clause-refused c =
    let was = c.units.growing in
    let grown : OpenChunk = record { text = c.write_plain.new.text; depth = was.depth; start = was.start; is_first = was.is_first } in
    let run : Reading c.args.is_verbatim c.args.text.now c.args.offset c.args.out.now c.write_plain.new.s grown c.units.out =
    reading_plain was grown c.units.invariant c.in_ok-write_plain.ensures refl refl in
    let fails = fails_unit run.read (c.in_default.ensures.fails c.if-done.ensures) c.early_end_error.ensures.kind in
    inr (fails_kind fails, fails_stuck fails)

pub returns-in_default-clause-fails : goal.returns-in_default-clause-fails
returns-in_default-clause-fails c =
    let was = c.units.growing in
    let grown : OpenChunk = record { text = c.write_plain.new.text; depth = was.depth; start = was.start; is_first = was.is_first } in
    let run : Reading c.args.is_verbatim c.args.text.now c.args.offset c.args.out.now c.write_plain.new.s grown c.units.out =
    reading_plain was grown c.units.invariant c.in_ok-write_plain.ensures refl refl in
    inr (fails_unit run.read (c.in_default.ensures.fails c.if-done.ensures) c.early_end_error.ensures.kind)

pub take-requires : goal.take-requires
take-requires c =
    let was = c.units.growing in
    let grown : OpenChunk = record { text = c.write_plain.new.text; depth = was.depth; start = was.start; is_first = was.is_first } in
    let run : Reading c.args.is_verbatim c.args.text.now c.args.offset c.args.out.now c.write_plain.new.s grown c.units.out =
    reading_plain was grown c.units.invariant c.in_ok-write_plain.ensures refl refl in
    let at : c.cursor-start.result ≡ c.write_plain.new.s.at = c.cursor-start.ensures.place in
    let fits : length c.write_plain.new.s.text < 2 ^ 63 = c.cursor-start.ensures.fits in
    let next =
    unit_place c.in-Some.ensures.found c.in-Some.ensures.same c.cursor-start.ensures.utf8 c.cursor.ensures.utf8
    run.within (rw (← c.cursor.ensures.place) c.cursor.ensures.boundary.0) in
    record {
      deep = omega (arith, run.deep, run.within, fits);
      place = record {
        spelt = c.cursor.ensures.place ∙ next ∙ ap (λ n. n + length (encode_utf8_all (unit_spelling (unit_of c.in-Some.unit)))) (sym at);
        inside = (c.write_plain.new.s.text, stands_at _ _ _ _ _ at c.cursor.ensures.place c.in-Some.unit c.in-Some.ensures.inside);
        named = unit_named c.in-Some.unit c.in-Some.ensures.found;
      };
    }

pub units-smaller : goal.units-smaller
units-smaller c =
    let shorter = unit_shorter c.in-Some.ensures.found in
    let eaten : length (left c.write_plain.new.s) ≤ length (left c.units.s) = passes_shorter c.in_ok-write_plain.ensures.1.passes in
    omega (arith, shorter.0, eaten)

pub units-preserved : goal.units-preserved
units-preserved c =
    let was = c.units.growing in
    let grown : OpenChunk = record { text = c.write_plain.new.text; depth = was.depth; start = was.start; is_first = was.is_first } in
    let run : Reading c.args.is_verbatim c.args.text.now c.args.offset c.args.out.now c.write_plain.new.s grown c.units.out =
    reading_plain was grown c.units.invariant c.in_ok-write_plain.ensures refl refl in
    let within : c.eat_unit.new.s.at ≤ length c.eat_unit.new.s.text = rw (← c.cursor.ensures.place) c.cursor.ensures.boundary.0 in
    let next =
    unit_place c.in-Some.ensures.found c.in-Some.ensures.same c.cursor-start.ensures.utf8 c.cursor.ensures.utf8
    run.within within in
    reading_unit grown c.take.new.growing run c.in-Some.ensures.found c.in-Some.ensures.same next within
    c.in_ok-take.ensures.ok.taken c.in_ok-take.ensures.ok.joined
    (rw (c.cursor-start.ensures.place, c.cursor.ensures.place) at c.in_ok-take.ensures.ok.placed)

pub returns-in_err-take-clause-refused : goal.returns-in_err-take-clause-refused
returns-in_err-take-clause-refused c =
    let was = c.units.growing in
    let grown : OpenChunk = record { text = c.write_plain.new.text; depth = was.depth; start = was.start; is_first = was.is_first } in
    let run : Reading c.args.is_verbatim c.args.text.now c.args.offset c.args.out.now c.write_plain.new.s grown c.units.out =
    reading_plain was grown c.units.invariant c.in_ok-write_plain.ensures refl refl in
    let p = err_from_is_err_and c.from_residual-in_err-take.result c.from_residual-in_err-take.ensures.1 in
    rw (p.1, p.2) (elim c.in_err-take.ensures.err.refused [
      | inl memory ↦ inl memory
      | inr untaken ↦ let fails = fails_taken run.read c.in-Some.ensures.found untaken in inr (fails_kind fails, fails_stuck fails)
    ])

pub returns-in_err-take-clause-fails : goal.returns-in_err-take-clause-fails
returns-in_err-take-clause-fails c =
    let was = c.units.growing in
    let grown : OpenChunk = record { text = c.write_plain.new.text; depth = was.depth; start = was.start; is_first = was.is_first } in
    let run : Reading c.args.is_verbatim c.args.text.now c.args.offset c.args.out.now c.write_plain.new.s grown c.units.out =
    reading_plain was grown c.units.invariant c.in_ok-write_plain.ensures refl refl in
    let p = err_from_is_err_and c.from_residual-in_err-take.result c.from_residual-in_err-take.ensures.1 in
    rw (p.1, p.2) (elim c.in_err-take.ensures.err.refused [
      | inl memory ↦ inl memory
      | inr untaken ↦ inr (fails_taken run.read c.in-Some.ensures.found untaken)
    ])
