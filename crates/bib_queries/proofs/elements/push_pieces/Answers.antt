use Rattle.std.proofs.Common.{◌∙◌, ◌++◌, ap, lit<}
use Rattle.std.specs.List.{flat_map}
use Rattle.std.specs.String.{string_bytes}
use Rattle.std.proofs.lemmas.Iterator.Consumers.{YieldsList-end}
use Rattle.std.proofs.lemmas.Iterator.Splits.{YieldsList-from_str_split}
use Rattle.bib_queries.specs.Elements.{unescaped_piece}
use Rattle.bib_queries.proofs.elements.push_pieces.Goals as goal

pub returns : goal.returns
returns c =
    let all =
    YieldsList-end (YieldsList-from_str_split 38 c.args.text.now (lit< tt) (cc) (cc) (cc)) c.pieces.yielded _
    c.pieces.yielded_by _ _ c.in-None.is c.next.ensures.steps in
    c.pieces.invariant ∙ ap (λ l. string_bytes c.args.written.now ++ flat_map unescaped_piece l) all.0
