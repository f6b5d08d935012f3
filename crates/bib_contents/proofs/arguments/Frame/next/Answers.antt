use Rattle.std.proofs.Common.{rules, arith, ◌≡◌, ◌∙◌, ◌+◌, ◌≤◌, sym, ap, inl, inr, subst, length, false}
use Rattle.std.specs.Str.{chars}
use Rattle.std.proofs.lemmas.Result.{err_from_is_err_and}
use Rattle.std.proofs.lemmas.Str.{encodes-chars}
use Rattle.bib_text.proofs.TextFacts.{pushed_chars}
use Rattle.bib_contents.specs.Arguments.{IsArgumentBetween}
use Rattle.bib_contents.specs.Contents.{is_ordinary}
use Rattle.bib_contents.specs.Progress.{left}
use Rattle.bib_contents.proofs.ArgumentFacts.{passes_ahead, passes_shorter, passes_within}
use Rattle.bib_contents.proofs.ArgumentReading.{fails_on, read_run}
use Rattle.bib_contents.proofs.FrameFacts.{shorter_wider, stays_wider, unit_ahead}
use Rattle.bib_contents.proofs.ReadingContents.{unit_place}
use Rattle.bib_contents.proofs.arguments.Frame.next.Goals as goal

pub eat_while-run-requires-clause-is_test : goal.eat_while-run-requires-clause-is_test
eat_while-run-requires-clause-is_test c = (is_ordinary false, λ x r post. search rules)

pub returns-then-done-clause-ok : goal.returns-then-done-clause-ok
returns-then-done-clause-ok c = record {
  kept = search rules;
  right =
      let ahead : c.args.self.now.s.at ≤ c.eat_while-run.new.self.at = passes_ahead c.eat_while-run.ensures.passed in
      let deep : c.args.self.now.depth ≤ c.args.self.now.s.at = c.requires.right.deep in
      record {
        within = passes_within c.eat_while-run.ensures.passed c.requires.right.within;
        deep = omega arith;
      };
  read = λ whole base read.
      let all = c.eat_while-run.ensures.longest (is_ordinary false) (λ x r post. search rules) in
      let ran = read_run (chars c.eat_while-run.result.now) read c.eat_while-run.ensures.passed.left all.0
      (pushed_chars _ _ _ _ (chars c.eat_while-run.result.now) c.in_ok-push_str.was c.push_str.ensures.bytes
      (sym (encodes-chars _ c.eat_while-run.utf8))) in
      (rw c.if-done.ensures at ran, c.if-done.ensures);
  shorter = search rules;
}

pub returns-in_default-clause-err : goal.returns-in_default-clause-err
returns-in_default-clause-err c =
    let same : length c.eat_unit.new.s.text ≡ length c.args.self.now.s.text =
    ap length (c.in_default.ensures.same ∙ c.eat_while-run.ensures.passed.same) in
    let size = c.len.ensures in
    let place = c.saturating_add.ensures in
    let within : c.args.self.now.s.at ≤ length c.args.self.now.s.text = c.requires.right.within in
    record {
      refused = inr (λ whole base read.
          let all = c.eat_while-run.ensures.longest (is_ordinary false) (λ x r post. search rules) in
          let ran = read_run (chars c.eat_while-run.result.now) read c.eat_while-run.ensures.passed.left all.0
          (pushed_chars _ _ _ _ (chars c.eat_while-run.result.now) c.in_ok-push_str.was c.push_str.ensures.bytes
          (sym (encodes-chars _ c.eat_while-run.utf8))) in
          fails_on ran (c.in_default.ensures.fails c.if-done.ensures) c.early_end_error.ensures.kind);
      within = λ fits. rw c.early_end_error.ensures.place
          (inr (omega (arith, place, size, same, within, fits), omega arith, omega (arith, place, size, same, fits)));
    }

pub returns-clause-ok : goal.returns-clause-ok
returns-clause-ok c =
    let within : c.eat_while-run.new.self.at ≤ length c.eat_while-run.new.self.text =
    passes_within c.eat_while-run.ensures.passed c.requires.right.within in
    let inside : c.eat_unit.new.s.at ≤ length c.eat_unit.new.s.text = rw (← c.cursor.ensures.place) c.cursor.ensures.boundary.0 in
    let next = unit_place c.in-Some.ensures.found c.in-Some.ensures.same c.cursor-start.ensures.utf8 c.cursor.ensures.utf8 within inside in
    let ahead : c.args.self.now.s.at ≤ c.eat_while-run.new.self.at = passes_ahead c.eat_while-run.ensures.passed in
    let more : c.eat_while-run.new.self.at + 1 ≤ c.eat_unit.new.s.at = unit_ahead _ _ _ c.in-Some.ensures.found next in
    let fewer : length (left c.eat_while-run.new.self) ≤ length (left c.args.self.now.s) = passes_shorter c.eat_while-run.ensures.passed in
    let stands =
    subst (λ t. IsArgumentBetween t c.eat_while-run.new.self.at c.in-Some.unit c.eat_unit.new.s.at)
    (sym c.in-Some.ensures.same) c.in-Some.ensures.inside in
    let deep : c.args.self.now.depth ≤ c.args.self.now.s.at = c.requires.right.deep in
    let frame = c.take.ensures.frame in
    let deeper = frame.deep in
    record {
      kept = record {
        text = rw frame.cursor (c.in-Some.ensures.same ∙ c.eat_while-run.ensures.passed.same);
        effect = frame.effect;
        start = frame.start;
        is_flat = frame.is_flat;
        ahead = rw frame.cursor (omega arith);
      };
      right = record {
        within = rw frame.cursor inside;
        deep = rw frame.cursor (omega (arith, deeper));
      };
      read = λ whole base read.
          let all = c.eat_while-run.ensures.longest (is_ordinary false) (λ x r post. search rules) in
          let ran = read_run (chars c.eat_while-run.result.now) read c.eat_while-run.ensures.passed.left all.0
          (pushed_chars _ _ _ _ (chars c.eat_while-run.result.now) c.in_ok-push_str.was c.push_str.ensures.bytes
          (sym (encodes-chars _ c.eat_while-run.utf8))) in
          c.in_ok-next.ensures.taken.read whole base (left c.eat_while-run.new.self) c.in-Some.ensures.found ran;
      shorter =
          shorter_wider c.in_ok-next.next _ _ _ _ _ _ c.take.new.self.s
          (c.in_ok-next.ensures.taken.shorter (left c.eat_while-run.new.self) c.eat_while-run.new.self.at
          c.in-Some.ensures.found stands) fewer ahead (c.in-Some.ensures.same ∙ c.eat_while-run.ensures.passed.same);
    }

pub returns-in_err-next-clause-err : goal.returns-in_err-next-clause-err
returns-in_err-next-clause-err c =
    let within : c.eat_while-run.new.self.at ≤ length c.eat_while-run.new.self.text =
    passes_within c.eat_while-run.ensures.passed c.requires.right.within in
    let inside : c.eat_unit.new.s.at ≤ length c.eat_unit.new.s.text = rw (← c.cursor.ensures.place) c.cursor.ensures.boundary.0 in
    let next = unit_place c.in-Some.ensures.found c.in-Some.ensures.same c.cursor-start.ensures.utf8 c.cursor.ensures.utf8 within inside in
    let ahead : c.args.self.now.s.at ≤ c.eat_while-run.new.self.at = passes_ahead c.eat_while-run.ensures.passed in
    let more : c.eat_while-run.new.self.at + 1 ≤ c.eat_unit.new.s.at = unit_ahead _ _ _ c.in-Some.ensures.found next in
    let same : length c.eat_unit.new.s.text ≡ length c.args.self.now.s.text =
    ap length (c.in-Some.ensures.same ∙ c.eat_while-run.ensures.passed.same) in
    let start = c.saturating_add-end.ensures in
    let following = c.saturating_add-following.ensures in
    let at = c.cursor-start.ensures.place in
    let at_end = c.cursor.ensures.place in
    let p = err_from_is_err_and c.from_residual-in_err-next.result c.from_residual-in_err-next.ensures.1 in
    rw (p.1, p.2) (record {
      refused = elim c.in_err-next.ensures.taken.refused [
        | inl memory ↦ inl memory
        | inr fails ↦ inr (λ whole base read.
            let all = c.eat_while-run.ensures.longest (is_ordinary false) (λ x r post. search rules) in
            let ran = read_run (chars c.eat_while-run.result.now) read c.eat_while-run.ensures.passed.left all.0
            (pushed_chars _ _ _ _ (chars c.eat_while-run.result.now) c.in_ok-push_str.was c.push_str.ensures.bytes
            (sym (encodes-chars _ c.eat_while-run.utf8))) in
            fails (left c.eat_while-run.new.self) c.in-Some.ensures.found whole base ran)
      ];
      within = λ fits.
          stays_wider (c.in_err-next.ensures.within (omega (arith, start, following, at, at_end, more)))
          (omega (arith, start, at, ahead, fits, within, inside, same))
          (omega (arith, following, at_end, inside, same, fits));
    })
