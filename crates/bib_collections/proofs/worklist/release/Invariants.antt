use Rattle.bib_collections.proofs.Work.{IsReleased}
use Rattle.bib_collections.proofs.worklist.release.Given as goal

abbrev pub invariant-loop-w : goal.invariant-loop-w
invariant-loop-w l = IsReleased l.initial.missing l.waiting l.initial.ready.items l.w-index l.missing l.ready.items
