use Rattle.std.proofs.Common.{◌∙◌, sym}
use Rattle.std.proofs.lemmas.List.{map-id}
use Rattle.std.proofs.lemmas.Iterator.{YieldsList-from_chars}
use Rattle.std.proofs.lemmas.Iterator.Consumers.{YieldsList-end}
use Rattle.edit_accents.proofs.signs.characters.Goals as goal

pub returns : goal.returns
returns c =
    let all =
    YieldsList-end (YieldsList-from_chars c.args.text.now c.utf8.text cc) c.characters.yielded _ c.characters.yielded_by _ _
    c.in-None.is c.next.ensures.steps in
    c.characters.invariant ∙ (sym (map-id c.characters.yielded) ∙ all.0)
