use Rattle.std.proofs.Common.{◌≡◌, ◌++◌, [], map, take, ap, sym, ◌∙◌, subst, arith, refl}
use Rattle.std.specs.List.{AllByRecursion}
use Rattle.std.proofs.lemmas.List.{append-nil, map-append, take_all}
use Rattle.std.proofs.lemmas.Bool.{false_from_ne_true}
use Rattle.bib_source.specs.Comparison.{new_side, old_side}
use Rattle.bib_source.specs.Hunks.{IsNarrow, Make}
use Rattle.bib_source.specs.Hunks.{Make as make}
use Rattle.bib_source.specs.Visible.{IsCutOut, hunk_of}
use Rattle.bib_source.proofs.CutFacts.{cut_of, numbers_after, skipped_new, skipped_old}
use Rattle.bib_source.proofs.HunkFacts.{last_lines, next_hunk}
use Rattle.bib_source.proofs.NarrowFacts.{narrow_run, shown_after}
use Rattle.bib_source.proofs.hunks.hunks.Goals as goal
use Rattle.bib_text.proofs.ListFacts.{all_push}

pub hunks-preserved-in-Continue-1 : goal.hunks-preserved-in-Continue-1
hunks-preserved-in-Continue-1 c =
    record {
      make = λ more rest rest' made.
          subst
          (λ hs.
          Make 1 1 (hs ++ more) (old_side (take c.run_end-end.result c.args.lines.now) ++ rest)
          (new_side (take c.run_end-end.result c.args.lines.now) ++ rest'))
          (sym (ap (map hunk_of) c.in_ok-push.ensures.items ∙ map-append hunk_of c.hunks.hunks.items _))
          (next_hunk c.args.lines.now c.hunks.at c.run_end-start.result c.run_end-end.result c.hunks.old c.hunks.new
          (map hunk_of c.hunks.hunks.items) more rest rest' c.old_count.result c.new_count.result
          c.run_end-start.ensures.after c.run_end-end.ensures.after c.run_end-end.ensures.within
          (c.run_end-start.ensures.hidden refl) c.hunks.invariant.make
          c.old_count.ensures.is c.new_count.ensures.is made);
      narrow = subst (AllByRecursion IsNarrow)
          (sym (ap (map hunk_of) c.in_ok-push.ensures.items ∙ map-append hunk_of c.hunks.hunks.items _))
          (all_push IsNarrow (map hunk_of c.hunks.hunks.items) _ c.hunks.invariant.narrow
          (narrow_run c.args.lines.now c.run_end-start.result c.run_end-end.result _ _ (omega arith)
          c.run_end-end.ensures.within c.run_end-end.ensures.same
          (shown_after c.args.lines.now c.hunks.at c.run_end-start.result c.run_end-end.result c.run_end-start.ensures.after
          (omega arith) c.run_end-end.ensures.within c.run_end-start.ensures.same c.hunks.invariant.ended
          (c.run_end-end.ensures.same c.run_end-start.result (omega arith) (omega arith)))
          (λ inside. false_from_ne_true _ (c.run_end-end.ensures.ended inside))));
      cut = subst (AllByRecursion (IsCutOut c.args.lines.now))
          (sym (ap (map hunk_of) c.in_ok-push.ensures.items ∙ map-append hunk_of c.hunks.hunks.items _))
          (all_push (IsCutOut c.args.lines.now) (map hunk_of c.hunks.hunks.items) _ c.hunks.invariant.cut
          (cut_of c.args.lines.now c.run_end-start.result c.run_end-end.result _ _ (omega arith) c.run_end-end.ensures.within
          (skipped_old c.args.lines.now c.hunks.at c.run_end-start.result c.hunks.old c.run_end-start.ensures.after
          c.run_end-start.ensures.within (c.run_end-start.ensures.hidden refl) c.hunks.invariant.numbers.old_is)
          (skipped_new c.args.lines.now c.hunks.at c.run_end-start.result c.hunks.new c.run_end-start.ensures.after
          c.run_end-start.ensures.within (c.run_end-start.ensures.hidden refl) c.hunks.invariant.numbers.new_is)
          (shown_after c.args.lines.now c.hunks.at c.run_end-start.result c.run_end-end.result c.run_end-start.ensures.after
          (omega arith) c.run_end-end.ensures.within c.run_end-start.ensures.same c.hunks.invariant.ended
          (c.run_end-end.ensures.same c.run_end-start.result (omega arith) (omega arith)))
          (λ inside. false_from_ne_true _ (c.run_end-end.ensures.ended inside))));
      numbers =
          numbers_after c.args.lines.now c.hunks.at c.run_end-start.result c.run_end-end.result c.hunks.old c.hunks.new
          c.old_count.result c.new_count.result c.run_end-start.ensures.after c.run_end-end.ensures.after
          c.run_end-start.ensures.within (c.run_end-start.ensures.hidden refl) c.hunks.invariant.numbers
          c.old_count.ensures.is c.new_count.ensures.is c.old_count.ensures.within c.new_count.ensures.within;
      ended = λ some inside. false_from_ne_true _ (c.run_end-end.ensures.ended inside);
      within = c.run_end-end.ensures.within;
    }

pub hunks-preserved : goal.hunks-preserved
hunks-preserved c =
    record {
      make = λ more rest rest' made.
          last_lines c.args.lines.now c.hunks.at c.run_end-start.result c.run_end-end.result c.hunks.old c.hunks.new
          (map hunk_of c.hunks.hunks.items) more rest rest' c.old_count.result c.new_count.result
          c.run_end-start.ensures.after c.run_end-end.ensures.after c.run_end-end.ensures.within (omega arith)
          (c.run_end-start.ensures.hidden refl) c.hunks.invariant.make
          c.old_count.ensures.is c.new_count.ensures.is made;
      narrow = c.hunks.invariant.narrow;
      cut = c.hunks.invariant.cut;
      numbers =
          numbers_after c.args.lines.now c.hunks.at c.run_end-start.result c.run_end-end.result c.hunks.old c.hunks.new
          c.old_count.result c.new_count.result c.run_end-start.ensures.after c.run_end-end.ensures.after
          c.run_end-start.ensures.within (c.run_end-start.ensures.hidden refl) c.hunks.invariant.numbers
          c.old_count.ensures.is c.new_count.ensures.is c.old_count.ensures.within c.new_count.ensures.within;
      ended = λ some inside. false_from_ne_true _ (c.run_end-end.ensures.ended inside);
      within = c.run_end-end.ensures.within;
    }

pub returns-clause-make : goal.returns-clause-make
returns-clause-make c =
    let lines = c.args.lines.now in
    let all : take c.hunks.at lines ≡ lines = take_all c.hunks.at lines (omega arith) in
    subst (λ hs. Make 1 1 hs (old_side lines) (new_side lines)) (append-nil (map hunk_of c.hunks.hunks.items))
    (subst (λ xs. Make 1 1 (map hunk_of c.hunks.hunks.items ++ []) xs (new_side lines))
    (append-nil (old_side (take c.hunks.at lines)) ∙ ap old_side all)
    (subst (λ ys. Make 1 1 (map hunk_of c.hunks.hunks.items ++ []) (old_side (take c.hunks.at lines) ++ []) ys)
    (append-nil (new_side (take c.hunks.at lines)) ∙ ap new_side all)
    (c.hunks.invariant.make [] [] [] make.none)))
