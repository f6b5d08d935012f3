use Rattle.std.proofs.Common.{◌∙◌, sym, ap}
use Rattle.std.specs.Prelude.{◌==◌}
use Rattle.std.specs.Str.{chars}
use Rattle.bib_text.specs.Runs.{rest_after}
use Rattle.bib_text.proofs.ScannedFacts.{eaten_char, none_eaten, boundary_char}
use Rattle.bib_values.proofs.RangeFacts.{dashed, undashed, undashed_end}
use Rattle.bib_values.proofs.ranges.after_dash.Goals as goal

pub returns-in_default : goal.returns-in_default
returns-in_default c = undashed_end _ (none_eaten c.args.text.now c.new-scanner.ensures c.in_default.ensures.0)

pub range_from-requires : goal.range_from-requires
range_from-requires c = λ some.
    boundary_char c.cursor-at.result c.args.text.now c.new-scanner.ensures c.in-Some.ensures
    c.cursor-at.ensures.boundary

pub returns-then-not-is_dash : goal.returns-then-not-is_dash
returns-then-not-is_dash c =
    undashed _ _ c.in-Some.c
    (eaten_char c.args.text.now c.cursor-at.result c.new-scanner.ensures c.utf8.text c.in-Some.ensures
    c.cursor-at.ensures.place) (sym c.is_dash.ensures ∙ c.if-not-is_dash.true)

pub returns : goal.returns
returns c =
    dashed _ _ c.in-Some.c _
    (eaten_char c.args.text.now c.cursor-at.result c.new-scanner.ensures c.utf8.text c.in-Some.ensures
    c.cursor-at.ensures.place)
    (c.after_hyphens-rest.ensures ∙ ap (λ bs. rest_after (λ d. d == 45) (chars bs)) c.range_from.ensures.value)
    (sym c.is_dash.ensures ∙ c.if-not-is_dash.false)
