use Rattle.std.proofs.Common.{sym, ◌∙◌}
use Rattle.std.proofs.lemmas.Bool.{eqb-true}
use Rattle.std.proofs.lemmas.List.{nil_from_length}
use Rattle.bib_chunks.proofs.JoinedFacts.{placed_up}
use Rattle.bib_contents.proofs.ReaderFacts.{nothing_grows}
use Rattle.bib_contents.proofs.growing.finish.Goals as goal

pub returns-then-not-growing-clause-atoms : goal.returns-then-not-growing-clause-atoms
returns-then-not-growing-clause-atoms c =
    nothing_grows c.args.out.now c.args.growing
    (sym c.as_str.ensures.value ∙ nil_from_length _ (eqb-true _ 0 (sym c.if-is_empty.ensures)))

pub returns-then-not-growing-clause-placed : goal.returns-then-not-growing-clause-placed
returns-then-not-growing-clause-placed c low placed wider = placed_up _ low _ _ wider placed
