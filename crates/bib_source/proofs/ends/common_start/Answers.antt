use Rattle.std.proofs.lemmas.Grind.{common_steps}
use Rattle.std.proofs.Common.{◌≡◌, ◌++◌, ◌∷◌, [], get_or, sym, ◌∙◌, ap₂, arith}
use Rattle.bib_source.proofs.ComparisonFacts.{no_line, texts_more}
use Rattle.bib_source.proofs.EndFacts.{begin_differently, lines_differ, lines_same}
use Rattle.bib_source.proofs.ends.common_start.Goals as goal

pub returns-then-ne-clause-longest : goal.returns-then-ne-clause-longest
returns-then-ne-clause-longest c =
    begin_differently c.args.old.now c.args.new.now c.lines.index (omega arith) (omega arith)
    (lines_differ _ _ c.ne.result c.ne.ensures c.if-ne.true)

pub lines-preserved : goal.lines-preserved
lines-preserved c =
    let old = c.args.old.now in
    let new = c.args.new.now in
    let same : (get_or old c.lines.index no_line).now ≡ (get_or new c.lines.index no_line).now =
    lines_same _ _ c.ne.result c.ne.ensures c.if-ne.false in
    texts_more old c.lines.index (omega arith)
    ∙ ap₂ (λ ls l. ls ++ l ∷ []) c.lines.invariant same ∙ sym (texts_more new c.lines.index (omega arith))

pub returns-clause-longest : goal.returns-clause-longest
returns-clause-longest c = grind (arith, common_steps)
