use Rattle.std.proofs.Common.{◌≡◌, ◌<◌, ◌≤◌, IfSome, ◌+◌, ◌-◌, ◌++◌, ◌∷◌, [], length, take, drop, get_or, subst, arith}
use Rattle.bib_source.specs.Comparison.{line_texts}
use Rattle.bib_source.specs.Merging.{Extends}
use Rattle.bib_source.proofs.ComparisonFacts.{no_line, texts_more}
use Rattle.bib_source.proofs.MergeFacts.{extends_more, texts_after, texts_to_end}
use Rattle.bib_source.proofs.comparison.push_merged.Goals as goal
use Rattle.bib_source.proofs.comparison.push_merged.Goals.{in-Some+in_ok-push_run_before, in_default}

pub lines-preserved : goal.lines-preserved
lines-preserved c =
    let old = c.args.old.now in
    let new = c.args.new.now in
    let before = c.args.compared.now.items in
    elim c.match-partner.branch [
      | in-Some+in_ok-push_run_before w ↦
          let at = c.lines.at in
          let next = c.lines.next in
          let index = c.lines.index in
          let partner = w.in-Some.partner in
          let line = get_or old index no_line in
          let low : next ≤ partner = subst (λ o. IfSome o (λ p. next ≤ p)) w.in-Some.is c.partner.ensures.after in
          let high : partner < length new = subst (λ o. IfSome o (λ p. p < length new)) w.in-Some.is c.partner.ensures.within in
          let same : line_texts (take (partner + 1) new) ≡ line_texts (take partner new) ++ line.now ∷ [] =
          subst (λ o. IfSome o (λ p. line_texts (take (p + 1) new) ≡ line_texts (take p new) ++ line.now ∷ [])) w.in-Some.is
          c.partner.ensures.same in
          let olds = texts_after old at index line.now c.lines.invariant.before (texts_more old index c.lines-test.true) in
          let news = texts_after new next partner line.now low same in
          let after = w.push_run_before.new.compared.items in
          let merged : Extends before after (line_texts (take (index + 1) old)) (line_texts (take (partner + 1) new)) =
          subst (λ ls. Extends before after ls (line_texts (take (partner + 1) new))) olds
          (subst
          (λ ls.
          Extends before after (line_texts (take at old) ++ (line_texts (take (index - at) (drop at old)) ++ line.now ∷ [])) ls) news
          (extends_more before c.lines.compared.items after (line_texts (take at old)) (line_texts (take next new))
          (line_texts (take (index - at) (drop at old)) ++ line.now ∷ [])
          (line_texts (take (partner - next) (drop next new)) ++ line.now ∷ [])
          c.lines.invariant.merged w.in_ok-push_run_before.ensures.merged)) in
          record {
            merged = rw w.compared-is (rw w.at-is (rw w.next-is merged));
            runs = rw w.compared-is (λ is. w.in_ok-push_run_before.ensures.runs (c.lines.invariant.runs is));
            before = omega (arith, w.at-is);
            within = omega (arith, w.next-is, high);
          }
      | in_default w ↦
          record {
            merged = rw w.compared-is (rw w.at-is (rw w.next-is c.lines.invariant.merged));
            runs = rw w.compared-is c.lines.invariant.runs;
            before = omega (arith, w.at-is, c.lines.invariant.before);
            within = omega (arith, w.next-is, c.lines.invariant.within);
          }
    ]

pub returns-clause-merged : goal.returns-clause-merged
returns-clause-merged c =
    let old = c.args.old.now in
    let new = c.args.new.now in
    let at = c.lines.at in
    let next = c.lines.next in
    let before = c.args.compared.now.items in
    let after = c.push_run.new.compared.items in
    subst (λ ls. Extends before after ls (line_texts new)) (texts_to_end old at (omega (arith, c.lines.invariant.before)))
    (subst (λ ls. Extends before after (line_texts (take at old) ++ line_texts (take (length old - at) (drop at old))) ls)
    (texts_to_end new next c.lines.invariant.within)
    (extends_more before c.lines.compared.items after (line_texts (take at old)) (line_texts (take next new))
    (line_texts (take (length old - at) (drop at old))) (line_texts (take (length new - next) (drop next new)))
    c.lines.invariant.merged c.in_ok-push_run.ensures.merged))
