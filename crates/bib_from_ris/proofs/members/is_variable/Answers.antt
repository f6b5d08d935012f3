use Rattle.std.proofs.Common.{◌∙◌, ap, lit<}
use Rattle.std.specs.Prelude.{bytes_eq}
use Rattle.std.specs.List.{list_any, slice_split}
use Rattle.std.proofs.lemmas.Iterator.Consumers.{YieldsList-end}
use Rattle.std.proofs.lemmas.Iterator.Splits.{YieldsList-from_str_split}
use Rattle.bib_from_ris.proofs.members.is_variable.Goals as goal

pub returns : goal.returns
returns c =
    let all =
    YieldsList-end (YieldsList-from_str_split 32 c.variable_names.result.now (lit< tt) (cc) (cc) (cc)) c.names.yielded _
    c.names.yielded_by _ _ c.in-None.is c.next.ensures.steps in
    c.names.invariant ∙ ap (list_any (bytes_eq c.args.name.now)) (all.0 ∙ ap (slice_split _) c.variable_names.ensures)
