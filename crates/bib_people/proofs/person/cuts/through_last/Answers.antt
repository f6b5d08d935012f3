use Rattle.std.proofs.Common.{sym, ◌∙◌}
use Rattle.bib_people.specs.WordKinds.{is_of}
use Rattle.bib_people.proofs.CutFacts.{through_init, through_yes, through_no}
use Rattle.bib_people.proofs.person.cuts.through_last.Goals.{then-is_of, else-is_of}
use Rattle.bib_people.proofs.person.cuts.through_last.Goals as goal

pub words-init : goal.words-init
words-init c = through_init (is_of c.args.kind) c.args.words.now

pub words-preserved : goal.words-preserved
words-preserved c =
    elim c.if-is_of.branch [
      | then-is_of w ↦ rw w.end-is
          (through_yes (is_of c.args.kind) c.args.words.now c.words.i c.words.end c.index-words-i.result
          c.words-test.true c.index-words-i.is (sym c.is_of.ensures ∙ w.if-is_of.true) c.words.invariant)
      | else-is_of w ↦ rw w.end-is
          (through_no (is_of c.args.kind) c.args.words.now c.words.i c.words.end c.index-words-i.result
          c.words-test.true c.index-words-i.is (sym c.is_of.ensures ∙ w.if-is_of.false) c.words.invariant)
    ]
