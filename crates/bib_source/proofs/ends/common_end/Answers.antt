use Rattle.std.proofs.lemmas.Grind.{common_steps}
use Rattle.std.proofs.Common.{◌≡◌, ◌∷◌, ◌-◌, ◌+◌, length, drop, take, get_or, sym, ◌∙◌, ap, ap₂, subst, arith}
use Rattle.bib_source.specs.Comparison.{EndDifferently, line_texts}
use Rattle.bib_source.proofs.ComparisonFacts.{no_line}
use Rattle.bib_source.proofs.EndFacts.{end_differently, lines_differ, lines_same, texts_from}
use Rattle.bib_source.proofs.ends.common_end.Goals as goal

pub returns-then-ne-clause-longest : goal.returns-then-ne-clause-longest
returns-then-ne-clause-longest c =
    let old = c.args.old.now in
    let new = c.args.new.now in
    let i = length old - 1 - c.lines.index in
    let j = length new - 1 - c.lines.index in
    let i-is : i + 1 ≡ length old - c.lines.index = omega arith in
    let j-is : j + 1 ≡ length new - c.lines.index = omega arith in
    subst (λ n. EndDifferently (line_texts (take n old)) (line_texts (take (length new - c.lines.index) new))) i-is
    (subst (λ n. EndDifferently (line_texts (take (i + 1) old)) (line_texts (take n new))) j-is
    (end_differently old new i j (omega arith) (omega arith) (lines_differ _ _ c.ne.result c.ne.ensures c.if-ne.true)))

pub lines-preserved : goal.lines-preserved
lines-preserved c =
    let old = c.args.old.now in
    let new = c.args.new.now in
    let i = length old - 1 - c.lines.index in
    let j = length new - 1 - c.lines.index in
    let i-is : length old - (c.lines.index + 1) ≡ i = omega arith in
    let j-is : length new - (c.lines.index + 1) ≡ j = omega arith in
    let i-next : i + 1 ≡ length old - c.lines.index = omega arith in
    let j-next : j + 1 ≡ length new - c.lines.index = omega arith in
    let same : (get_or old i no_line).now ≡ (get_or new j no_line).now = lines_same _ _ c.ne.result c.ne.ensures c.if-ne.false in
    ap (λ n. line_texts (drop n old)) i-is ∙ texts_from old i (omega arith)
    ∙ ap₂ (λ l ls. l ∷ ls) same
    (ap (λ n. line_texts (drop n old)) i-next ∙ c.lines.invariant ∙ ap (λ n. line_texts (drop n new)) (sym j-next))
    ∙ sym (texts_from new j (omega arith)) ∙ ap (λ n. line_texts (drop n new)) (sym j-is)

pub returns-clause-longest : goal.returns-clause-longest
returns-clause-longest c = grind (arith, common_steps)

pub lines-init : goal.lines-init
lines-init c = grind (arith, common_steps)
