use Rattle.std.proofs.Common.{◌<◌, ℕ, Bool, List, length, map, sym, ap, ◌∙◌, arith}
use Rattle.std.proofs.lemmas.List.Elements.{All-push}
use Rattle.bib_syntax.specs.Views.{entry_reading_of}
use Rattle.bib_syntax.specs.declared.raw.recovery.SkippedBlock.{SkippedBlock}
use Rattle.bib_findings.specs.Lacking.{is_cut_at}
use Rattle.bib_findings.proofs.LackingFacts.{cut_within, failed_next, passed_next}
use Rattle.bib_findings.proofs.lacking.cut_indices.Goals as goal
use Rattle.bib_findings.proofs.lacking.cut_indices.Goals.{then-is_cut_at+in_ok-push, else-is_cut_at}

pub origins-preserved : goal.origins-preserved
origins-preserved c =
    let test : List SkippedBlock → ℕ → Bool = λ skipped. is_cut_at skipped (map entry_reading_of c.args.said.now) c.args.origins.now in
    elim c.if-is_cut_at.branch [
      | then-is_cut_at+in_ok-push w ↦
          let more = ap (λ v. v.items) w.cut-is ∙ w.in_ok-push.ensures.items in
          record {
            below = rw more
                (All-push (λ i. i < length c.args.origins.now) c.origins.cut.items c.origins.index c.origins.invariant.below
                c.origins-test.true);
            cut = λ skipped agree.
                passed_next (test skipped) c.origins.cut.items c.if-is_cut_at.cut.items c.origins.index
                (sym (c.is_cut_at.ensures skipped agree) ∙ w.if-is_cut_at.true) more (c.origins.invariant.cut skipped agree);
          }
      | else-is_cut_at w ↦
          let same = ap (λ v. v.items) w.cut-is in
          record {
            below = rw same c.origins.invariant.below;
            cut = λ skipped agree.
                failed_next (test skipped) c.origins.cut.items c.if-is_cut_at.cut.items c.origins.index
                (sym (c.is_cut_at.ensures skipped agree) ∙ w.if-is_cut_at.false) same (c.origins.invariant.cut skipped agree);
          }
    ]

pub returns-clause-cut : goal.returns-clause-cut
returns-clause-cut c = λ skipped agree index.
    let so = c.origins.invariant.cut skipped agree index in (
      λ held. (so.0 held).1,
      λ is. so.1
          (omega (arith, cut_within skipped (map entry_reading_of c.args.said.now) c.args.origins.now index is, c.origins-test.false), is),
    )
