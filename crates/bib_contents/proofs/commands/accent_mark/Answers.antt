use Rattle.std.proofs.Common.{◌∙◌, ◌++◌, sym, ap}
use Rattle.std.specs.Char.{encode_utf8}
use Rattle.bib_text.specs.Enums.{value_named}
use Rattle.bib_contents.specs.Commands.{accents}
use Rattle.bib_contents.proofs.CommandFacts.{accents_empty, accents_longer, accents_one}
use Rattle.bib_contents.proofs.commands.accent_mark.Goals as goal

pub returns-in_default : goal.returns-in_default
returns-in_default c = accents_empty c.args.name.now (rw c.chars-chars.ensures.rest at c.in_default.ensures.steps.0).0

pub returns-then-not-is_empty : goal.returns-then-not-is_empty
returns-then-not-is_empty c =
    accents_longer c.args.name.now c.as_str.result.now c.in-Some.c c.utf8.name
    (sym c.chars-chars.ensures.rest ∙ c.in-Some.ensures.steps.0 ∙ ap (λ bs. encode_utf8 c.in-Some.c ++ bs) (sym c.as_str.ensures))
    (sym c.is_empty.ensures ∙ c.if-not-is_empty.true)

pub returns : goal.returns
returns c =
    c.mark_of.ensures ∙ ap (value_named accents) (sym (accents_one c.args.name.now c.as_str.result.now c.in-Some.c c.utf8.name
    (sym c.chars-chars.ensures.rest ∙ c.in-Some.ensures.steps.0 ∙ ap (λ bs. encode_utf8 c.in-Some.c ++ bs) (sym c.as_str.ensures))
    (sym c.is_empty.ensures ∙ c.if-not-is_empty.false)))
