use Rattle.std.proofs.Common.{sym, subst}
use Rattle.std.specs.Str.{IsCharBoundary}
use Rattle.bib_syntax.specs.Blocks.{item_of}
use Rattle.bib_syntax.specs.Grammar.{Block, longest}
use Rattle.bib_syntax.proofs.FileFacts.{ahead_block}
use Rattle.bib_syntax.proofs.RecoveryFacts.{follows}
use Rattle.bib_syntax.proofs.raw.recovery.read_block.Goals as goal
use Rattle.bib_syntax.proofs.raw.recovery.read_block.Goals.{In_ok-item}

read : (c : In_ok-item) → Block longest c.args.s.now (item_of c.in_ok-item.item) c.block.new.s
read c = subst (λ u. Block longest u (item_of c.in_ok-item.item) c.block.new.s) c.with_memo-reader.ensures c.in_ok-item.ensures.found

pub jump-requires : goal.jump-requires
jump-requires c =
    let block = read (goal.at.jump-requires c).In_ok-item in
    subst (λ text. IsCharBoundary text c.cursor.result) (ahead_block block).text c.cursor.ensures.boundary

pub returns-clause-found : goal.returns-clause-found
returns-clause-found c =
    let block = read (goal.at.returns-clause-found c).In_ok-item in
    subst (λ v. Block longest c.args.s.now (item_of c.in_ok-item.item) v)
    (sym (follows _ (ahead_block block) c.cursor.ensures.place c.jump.ensures)) block
