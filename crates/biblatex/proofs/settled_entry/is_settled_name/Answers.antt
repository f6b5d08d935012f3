use Rattle.std.proofs.Common.{sym, ◌∙◌, refl}
use Rattle.std.proofs.lemmas.Bool.{false≢true}
use Rattle.biblatex.proofs.SettledFacts.{never, settled_name, small_text}
use Rattle.biblatex.proofs.settled_entry.is_settled_name.Goals as goal

pub returns-then-not-is_small : goal.returns-then-not-is_small
returns-then-not-is_small c =
    never
    (λ settled.
    let same = (small_text c.args.name.now).1 settled.small in false≢true (c.if-not-is_small.ensures ∙ same))

pub returns : goal.returns
returns c =
    settled_name c.args.name.now c.is_linking.result (c.if-not-is_identifier.ensures.0 refl)
    (sym c.if-not-is_small.ensures) c.is_linking.ensures
