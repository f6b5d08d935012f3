use Rattle.std.proofs.Common.{◌∙◌, ap, lit<}
use Rattle.std.specs.List.{flat_map}
use Rattle.std.proofs.lemmas.Iterator.Consumers.{YieldsList-end}
use Rattle.std.proofs.lemmas.Iterator.Splits.{YieldsList-from_str_split}
use Rattle.bib_queries.specs.Elements.{set_name}
use Rattle.bib_queries.specs.Needed.{is_listed}
use Rattle.bib_queries.proofs.CitationFacts.{listed_more}
use Rattle.bib_queries.proofs.citations.set_names.Goals as goal

pub elements-preserved : goal.elements-preserved
elements-preserved c = λ key.
    listed_more c.elements.yielded c.in-Some.piece key _ _ (c.in_ok-add_set.ensures key) (c.elements.invariant key)

pub returns : goal.returns
returns c = λ key.
    let all =
    (YieldsList-end (YieldsList-from_str_split 60 c.args.text.now (lit< tt) (cc) (cc) (cc)) c.elements.yielded _
    c.elements.yielded_by _ _ c.in-None.is c.next.ensures.steps).0
    in
    c.elements.invariant key ∙ ap (λ l. is_listed (flat_map set_name l) key) all
