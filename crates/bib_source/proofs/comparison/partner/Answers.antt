use Rattle.std.proofs.Common.{◌≡◌, ◌++◌, ◌∷◌, [], ap, get_or, sym, take, ◌∙◌, arith}
use Rattle.std.proofs.lemmas.Slice.Eq.{bytes_eq-Decides}
use Rattle.bib_source.specs.Comparison.{line_texts}
use Rattle.bib_source.proofs.ComparisonFacts.{no_line, texts_more}
use Rattle.bib_source.proofs.comparison.partner.Goals as goal

pub returns-in-Some-Some-clause-same : goal.returns-in-Some-Some-clause-same
returns-in-Some-Some-clause-same c =
    let partner = c.in-Some-Some.partner in
    let same : (get_or c.args.new.now partner no_line).now ≡ c.args.line.now = (bytes_eq-Decides _ _).0 (sym c.eq.ensures ∙ c.if-eq.true) in
    texts_more c.args.new.now partner (omega arith)
    ∙ ap (λ l. line_texts (take partner c.args.new.now) ++ l ∷ []) same
