use Rattle.std.proofs.Common.{◌<◌, length, get_or, refl, sym, inl, inr, false, true, arith}
use Rattle.std.proofs.lemmas.Str.{IsCharBoundary-after_ascii}
use Rattle.bib_text.specs.Places.{place, AtEnd, EndsOr}
use Rattle.bib_text.specs.Places.AllBetween.{stop}
use Rattle.bib_text.proofs.PlaceFacts.{all_push_ascii, all_push_char, run_of_all, stops_of_end, boundary_after, ascii_here}
use Rattle.bib_text.proofs.scanner.Scanner.eat_while.Goals as goal
use Rattle.bib_text.proofs.scanner.Scanner.eat_while.Goals.{else-run-test, then-run-test+then-byte-lt128+then-not-test, then-run-test+else-byte-lt128+in_default, then-run-test+else-byte-lt128+in-Some+then-not-test-2}

pub run-init : goal.run-init
run-init g c = (omega arith, c.self.invariant.1, stop)

pub run-preserved-then-byte-lt128 : goal.run-preserved-then-byte-lt128
run-preserved-then-byte-lt128 g c =
    let bytes = c.as_bytes-bytes.ensures.value in
    let within : c.run.at < length c.self.inside.text.now = rw bytes at c.run-test.true in
    let ascii : get_or c.self.inside.text.now c.run.at 0 < 128 = rw bytes at c.if-byte-lt128.true in (
      omega (arith, c.run.invariant.0),
      IsCharBoundary-after_ascii _ _ c.self.invariant.0 within ascii,
      all_push_ascii _ _ c.run.invariant.2 within ascii (rw (← bytes) (rw c.if-not-test.false at c.test.ensures)),
    )

pub run-preserved : goal.run-preserved
run-preserved g c =
    let width = c.len_utf8-at.ensures.value in (
      omega (arith, c.run.invariant.0),
      rw width (boundary_after _ _ refl c.self.invariant.0 c.run.invariant.1 c.in-Some.ensures.1),
      rw width (all_push_char _ _ c.run.invariant.2 c.in-Some.ensures.1 (rw c.if-not-test-2.false at c.test-else-byte-lt128.ensures)),
    )

pub returns : goal.returns
returns g c =
    let stopped : EndsOr (λ x. goal.F-post g c.args.test x false) (place c.self.inside.text.now c.run.at) = elim c.run-test.branch [
      | else-run-test w ↦
          let end : AtEnd (place c.self.inside.text.now c.run.at) =
          omega (arith, c.run.invariant.1.0, w.run-test.false, c.as_bytes-bytes.ensures.len) in
          inl end
      | then-run-test+then-byte-lt128+then-not-test w ↦
          let bytes = c.as_bytes-bytes.ensures.value in
          let within : c.run.at < length c.self.inside.text.now = rw bytes at w.run-test.true in
          let ascii : get_or c.self.inside.text.now c.run.at 0 < 128 = rw bytes at w.if-byte-lt128.true in
          inr (_, _, ascii_here _ _ within ascii, rw (← bytes) (rw w.if-not-test.true at w.test.ensures))
      | then-run-test+else-byte-lt128+in_default w ↦ inl w.in_default.ensures
      | then-run-test+else-byte-lt128+in-Some+then-not-test-2 w ↦
          inr (_, _, w.in-Some.ensures.1, rw w.if-not-test-2.true at w.test-else-byte-lt128.ensures)
    ] in
    rw (← c.self.view_is) record {
      longest = λ p answers. record {
        run = run_of_all (λ x holds. sym (answers x true holds)) c.run.invariant.2;
        stops = stops_of_end p (λ x holds. sym (answers x false holds)) stopped;
      };
      passed = c.run.invariant.2;
      stopped = stopped;
      same = refl;
      forward = c.run.invariant.0;
      eaten = c.range.ensures.value;
    }
