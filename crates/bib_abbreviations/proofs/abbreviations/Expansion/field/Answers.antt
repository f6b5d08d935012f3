use Rattle.std.proofs.Common.{◌∙◌, arith}
use Rattle.std.proofs.lemmas.Result.{err_from_is_err_and}
use Rattle.bib_abbreviations.proofs.PieceFacts.{read_all, read_none, read_step, read_stop}
use Rattle.bib_abbreviations.proofs.abbreviations.Expansion.field.Goals as goal

pub pieces-init : goal.pieces-init
pieces-init c = record { sound = c.requires.sound; read = rw (c.from_vec-out.ensures ∙ c.in_ok-with_capacity.ensures.items) read_none }

pub pieces-preserved : goal.pieces-preserved
pieces-preserved c = let x = c.in_ok-expand.ensures in record {
  sound = x.sound;
  read =
      read_step c.args.field.now.items c.deref-piece-items.result.now c.pieces.piece-index _
      c.deref-piece-items.ensures.value c.pieces-test.true
      c.pieces.invariant.read x.said.1 x.said.2 x.joined x.placed;
}

pub returns-clause-contents : goal.returns-clause-contents
returns-clause-contents c =
    read_all c.args.field.now.items c.deref-piece-items.result.now c.pieces.piece-index
    c.deref-piece-items.ensures.value (omega arith) c.pieces.invariant.read

pub returns-in_err-expand-clause-refused : goal.returns-in_err-expand-clause-refused
returns-in_err-expand-clause-refused c =
    let p = err_from_is_err_and c.from_residual-in_err-expand.result c.from_residual-in_err-expand.ensures.1 in
    rw (p.1, p.2) (read_stop c.args.field.now.items c.deref-piece-items.result.now c.pieces.piece-index _ _
    c.deref-piece-items.ensures.value c.pieces-test.true
    c.pieces.invariant.read c.in_err-expand.ensures.refused)
