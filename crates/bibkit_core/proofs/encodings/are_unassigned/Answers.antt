use Rattle.std.proofs.Common.{rules, tests}
use Rattle.std.proofs.lemmas.Iterator.{YieldsList-from_slice}
use Rattle.std.proofs.lemmas.Iterator.Search.{any_from_yields_List}
use Rattle.bibkit_core.specs.Encodings.{is_unassigned}
use Rattle.bibkit_core.proofs.encodings.are_unassigned.Goals as goal

pub returns : goal.returns
returns c =
    any_from_yields_List is_unassigned _ _ _ c.any.ensures.ran (YieldsList-from_slice c.args.bytes.now cc)
    (λ x b q k. search (rules, tests))
