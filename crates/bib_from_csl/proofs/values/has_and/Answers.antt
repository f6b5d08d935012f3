use Rattle.std.proofs.Common.{◌∙◌, ap, lit<}
use Rattle.std.specs.List.{list_any}
use Rattle.std.proofs.lemmas.Iterator.Consumers.{YieldsList-end}
use Rattle.std.proofs.lemmas.Iterator.Splits.{YieldsList-from_str_split}
use Rattle.bib_from_csl.specs.Values.{divides_lists}
use Rattle.bib_from_csl.proofs.values.has_and.Goals as goal

pub returns : goal.returns
returns c =
    let all =
    YieldsList-end (YieldsList-from_str_split 32 c.args.text.now (lit< tt) (cc) (cc) (cc)) c.words.yielded _
    c.words.yielded_by _ _ c.in-None.is c.next.ensures.steps in
    c.words.invariant ∙ ap (λ l. list_any divides_lists l) all.0
