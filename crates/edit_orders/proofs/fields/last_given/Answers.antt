use Rattle.std.proofs.Common.{rules, tests}
use Rattle.std.proofs.lemmas.Iterator.Adapters.{YieldsList-from_rev_slice}
use Rattle.std.proofs.lemmas.Iterator.Search.{find_from_yields_List}
use Rattle.bib_syntax.specs.Views.{field_of}
use Rattle.bib_syntax.specs.declared.raw.Pair.{Pair}
use Rattle.bib_text.proofs.ReverseFacts.{last_of_map}
use Rattle.edit_orders.specs.Fields.{is_field_given}
use Rattle.edit_orders.proofs.fields.last_given.Goals as goal

pub returns : goal.returns
returns c =
    last_of_map field_of (is_field_given c.args.name.now) c.args.fields.now c.find.result
    (find_from_yields_List (λ (f : Pair). is_field_given c.args.name.now (field_of f)) _ _ c.find.result
    c.find.ensures.ran (YieldsList-from_rev_slice c.args.fields.now cc) (λ x b q k. search (rules, tests)))
