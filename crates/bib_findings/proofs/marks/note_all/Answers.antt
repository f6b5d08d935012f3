use Rattle.std.specs.Option.{option_to_list}
use Rattle.bib_findings.proofs.NotedFacts.{noted_all}
use Rattle.bib_findings.proofs.marks.note_all.Goals as goal

pub returns : goal.returns
returns c =
    noted_all c.note-3.result c.args.met.now c.note.new.met c.note-2.new.met c.note-3.new.met
    (option_to_list c.args.marks.now.doi) (option_to_list c.args.marks.now.isbn)
    (option_to_list c.args.marks.now.title)
    c.in_ok-note.ensures c.in_ok-note-2.ensures c.note-3.ensures
