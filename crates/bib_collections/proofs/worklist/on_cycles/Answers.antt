use Rattle.bib_collections.specs.Rows.{rows}
use Rattle.bib_collections.proofs.Work.{waiting_in_range}
use Rattle.bib_collections.proofs.worklist.on_cycles.Goals as goal

pub marks_on_cycles-requires-clause-waiting : goal.marks_on_cycles-requires-clause-waiting
marks_on_cycles-requires-clause-waiting c =
    rw c.deref.ensures.value (waiting_in_range (rows c.args.refs.now) (rows c.in_ok-waiting.waiting.items) c.in_ok-waiting.ensures)
