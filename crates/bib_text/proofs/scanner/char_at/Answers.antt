use Rattle.std.proofs.Common.{◌∙◌}
use Rattle.bib_text.proofs.PlaceFacts.{char_at_prefix}
use Rattle.bib_text.proofs.scanner.char_at.Goals as goal

pub returns : goal.returns
returns c =
    char_at_prefix _ c.args.text.now c.args.at c.requires.0 _ _ _ (c.chars.ensures.rest ∙ c.range_from.ensures.value)
    c.next.ensures.steps.0
