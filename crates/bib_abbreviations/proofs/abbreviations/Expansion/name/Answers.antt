use Rattle.std.proofs.Common.{refl, inr, sym}
use Rattle.bib_abbreviations.specs.Abbreviations.{IsFirstError as first_error}
use Rattle.bib_abbreviations.specs.Expanding.{part_at}
use Rattle.bib_abbreviations.proofs.MemoFacts.{expands_again}
use Rattle.bib_abbreviations.proofs.abbreviations.Expansion.name.Goals as goal

pub repeat-requires-clause-ordered : goal.repeat-requires-clause-ordered
repeat-requires-clause-ordered c =
    (c.requires.within c.args.name.now _ _ (sym (rw c.in-Some-Done.field-0-is at c.in-Some-Done.ensures.value))).0

pub repeat-requires-clause-within : goal.repeat-requires-clause-within
repeat-requires-clause-within c =
    (c.requires.within c.args.name.now _ _ (sym (rw c.in-Some-Done.field-0-is at c.in-Some-Done.ensures.value))).1

pub returns-in_ok-from_str-in-Some-Begun-clause-refused : goal.returns-in_ok-from_str-in-Some-Begun-clause-refused
returns-in_ok-from_str-in-Some-Begun-clause-refused c = λ path sound. inr (λ rest.
    first_error.cycle
    (sound.begun c.args.name.now (sym (rw c.in-Some-Begun.field-0-is at c.in-Some-Begun.ensures.value)))
    (rw c.in_ok-from_str-in-Some-Begun.ensures refl))

pub returns-in_ok-repeat-in-Some-Done-clause-taken : goal.returns-in_ok-repeat-in-Some-Done-clause-taken
returns-in_ok-repeat-in-Some-Done-clause-taken c = λ path sound.
    let value = sound.done c.args.name.now _ _ (sym (rw c.in-Some-Done.field-0-is at c.in-Some-Done.ensures.value)) in
    let h = c.in_ok-repeat-in-Some-Done.ensures in
    (expands_again h.values.0 (part_at c.args.name.now c.args.span.now) value h.values.1 h.values.2, h.names)
