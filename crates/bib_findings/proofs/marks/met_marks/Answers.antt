use Rattle.bib_findings.proofs.NotedFacts.{noted_next}
use Rattle.bib_findings.proofs.marks.met_marks.Goals as goal

pub marks-preserved : goal.marks-preserved
marks-preserved c =
    noted_next c.marks.met c.note_all.new.met c.args.all.now c.marks.one-index _ c.marks-test.true
    c.in_ok-note_all.ensures c.marks.invariant
