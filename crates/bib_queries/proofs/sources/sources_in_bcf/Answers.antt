use Rattle.std.proofs.Common.{◌∙◌, ap, lit<}
use Rattle.std.specs.List.{flat_map}
use Rattle.std.proofs.lemmas.Iterator.Consumers.{YieldsList-end}
use Rattle.std.proofs.lemmas.Iterator.Splits.{YieldsList-from_str_split}
use Rattle.bib_queries.specs.Elements.{source_name}
use Rattle.bib_queries.proofs.sources.sources_in_bcf.Goals as goal

pub returns : goal.returns
returns c =
    let all =
    YieldsList-end (YieldsList-from_str_split 60 c.args.text.now (lit< tt) (cc) (cc) (cc)) c.elements.yielded _
    c.elements.yielded_by _ _ c.in-None.is c.next.ensures.steps in
    c.elements.invariant ∙ ap (flat_map source_name) all.0
