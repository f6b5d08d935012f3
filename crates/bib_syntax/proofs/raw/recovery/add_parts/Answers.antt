use Rattle.std.proofs.Common.{◌≡◌, ◌-◌, ◌∙◌, arith, ap, sym, subst}
use Rattle.std.specs.Prelude.{take}
use Rattle.bib_syntax.specs.Blocks.{item_of}
use Rattle.bib_syntax.specs.Reading.{empty_reading}
use Rattle.bib_syntax.specs.Recovery.{Keeps}
use Rattle.bib_syntax.specs.Recovery.{Keeps as keep}
use Rattle.bib_syntax.specs.Views.{file_of}
use Rattle.bib_text.specs.Places.{place}
use Rattle.bib_syntax.proofs.FileFacts.{then-empty_reading}
use Rattle.bib_syntax.proofs.RecoveryFacts.{on_ok, parts_kept, sign_in_cut, sign_boundary}
use Rattle.bib_syntax.proofs.raw.recovery.add_parts.Goals as goal
use Rattle.bib_syntax.proofs.raw.recovery.add_parts.Goals.{After-range}

-- the text up to the end of the block
cut : (c : After-range) → c.range.result.now ≡ take c.args.span.end c.args.text.now
cut c = let all : c.args.span.end - 0 ≡ c.args.span.end = omega arith in c.range.ensures.value ∙ ap (λ n. take n c.args.text.now) all

pub returns-then-not-keeps_parts : goal.returns-then-not-keeps_parts
returns-then-not-keeps_parts c = (
  empty_reading,
  subst (λ k. Keeps k (place c.args.text.now c.args.span.start) (place c.args.text.now c.args.span.end) empty_reading)
      (sym c.if-not-keeps_parts.true) keep.nothing,
  sym (then-empty_reading (file_of c.args.raw.now)),
)

pub kept-requires-clause-sign : goal.kept-requires-clause-sign
kept-requires-clause-sign c = sign_in_cut c.requires.block.1 c.requires.block.2 (cut (goal.at.kept-requires-clause-sign c).After-range)

pub kept-requires-clause-boundary : goal.kept-requires-clause-boundary
kept-requires-clause-boundary c =
    sign_boundary (sign_in_cut c.requires.block.1 c.requires.block.2 (cut (goal.at.kept-requires-clause-boundary c).After-range)).1

pub returns : goal.returns
returns c =
    on_ok c.add.result c.add.ensures (λ same. (
      item_of c.in_ok-item.item,
      subst (λ k. Keeps k (place c.args.text.now c.args.span.start) (place c.args.text.now c.args.span.end) (item_of c.in_ok-item.item))
          (sym c.if-not-keeps_parts.false)
          (parts_kept (cut (goal.at.returns c).After-range) c.in_ok-item.ensures),
      same,
    ))
