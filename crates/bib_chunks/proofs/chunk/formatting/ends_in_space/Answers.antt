use Rattle.std.proofs.Common.{◌∙◌, ◌++◌, sym, ap}
use Rattle.std.specs.Prelude.{encode_utf8}
use Rattle.bib_chunks.proofs.FormattedFacts.{ends_at_char, ends_of_none}
use Rattle.bib_chunks.proofs.chunk.formatting.ends_in_space.Goals as goal

pub returns-in_default : goal.returns-in_default
returns-in_default c = ends_of_none c.args.empty c.args.text.now (rw c.chars-chars.ensures.rest at c.in_default.ensures.steps.0)

pub returns : goal.returns
returns c = ends_at_char c.args.empty _ c.args.text.now c.as_str-before.result.now c.in-Some.c c.utf8.text c.as_str-before.utf8
    (sym c.chars-chars.ensures.rest ∙ c.in-Some.ensures.steps ∙ ap (λ bs. bs ++ encode_utf8 c.in-Some.c) (sym c.as_str-before.ensures))
    c.is_whitespace.ensures
