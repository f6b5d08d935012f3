use Rattle.std.proofs.Common.{◌∙◌, ap, sym}
use Rattle.bib_tables.specs.Requirements.{texts}
use Rattle.bib_inheritance.specs.Gathering.{gathered_text}
use Rattle.bib_inheritance.specs.EntryTexts.{first_some, texts_of_reference}
use Rattle.bib_inheritance.proofs.GatheredFacts.{given_container, given_other}
use Rattle.bib_inheritance.proofs.gathering.gather_reference.Goals as goal

pub returns-then-is_container : goal.returns-then-is_container
returns-then-is_container c = λ q.
    c.in_ok-gather_offers.ensures q
    ∙ ap (λ o. first_some o (gathered_text c.args.gathered.now q))
    (given_container c.args.entry_type.now c.args.reference.now (texts c.deref.result.now) q
    (sym c.is_container.ensures ∙ c.if-is_container.true) (ap texts c.deref.ensures.value ∙ c.in_ok-names.ensures))

pub returns : goal.returns
returns c = λ q.
    c.in_ok-gather_inheritable.ensures q
    ∙ ap (λ o. first_some o (gathered_text c.args.gathered.now q))
    (given_other c.args.entry_type.now (texts_of_reference c.args.reference.now) q
    (sym c.is_container.ensures ∙ c.if-is_container.false))
