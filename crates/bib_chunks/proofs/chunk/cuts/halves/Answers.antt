use Rattle.std.proofs.Common.{◌∙◌, refl, sym, ap}
use Rattle.bib_chunks.specs.declared.chunk.Chunk.TheVariants.{Normal}
use Rattle.bib_chunks.specs.Cuts.{halves}
use Rattle.bib_chunks.proofs.CutFacts.{no_halves, two_halves}
use Rattle.bib_chunks.proofs.chunk.cuts.halves.Goals as goal

pub returns-in_default-split_once : goal.returns-in_default-split_once
returns-in_default-split_once c =
    no_halves c.args.separator c.as_str-whole.result.now c.args.chunk.now.span c.as_str-whole.utf8
    (rw c.in_default-split_once.is at c.split_once.ensures.cases)
    ∙ ap (λ t. halves (Normal t) c.args.chunk.now.span c.args.separator) c.as_str-whole.ensures
    ∙ ap (λ v. halves v c.args.chunk.now.span c.args.separator) (sym c.in-Normal.is)

pub returns : goal.returns
returns c =
    two_halves c.args.separator c.as_str-whole.result.now c.args.chunk.now.span c.in-Some.before c.in-Some.following
    c.in_ok-first.first c.in_ok-second.second _
    c.as_str-whole.utf8 (rw c.in-Some.is at c.split_once.ensures.cases) refl c.in_ok-first.ensures c.in_ok-second.ensures
    ∙ ap (λ t. halves (Normal t) c.args.chunk.now.span c.args.separator) c.as_str-whole.ensures
    ∙ ap (λ v. halves v c.args.chunk.now.span c.args.separator) (sym c.in-Normal.is)
