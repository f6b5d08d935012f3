use Rattle.std.proofs.Common.{◌+◌, sym, subst}
use Rattle.std.specs.Char.{is_whitespace}
use Rattle.std.specs.Str.{IsCharBoundary}
use Rattle.bib_text.specs.Places.{Run, place}
use Rattle.edit_entries.proofs.TrimFacts.{white_rest, cut_in_part}
use Rattle.edit_entries.proofs.values.value_end.Goals as goal

pub returns-clause-white : goal.returns-clause-white
returns-clause-white c =
    let trimmed = c.trim_end.ensures.value in
    let start = c.args.field.now.value.span.start in
    subst
    (λ n.
    Run is_whitespace (place c.args.text.now (start + n))
    (place c.args.text.now c.args.field.now.value.span.end)) (sym trimmed.4)
    (white_rest c.args.text.now c.range-value.result.now start c.args.field.now.value.span.end trimmed.0
    c.range-value.ensures.value c.requires.ordered c.requires.end.0 trimmed.5 trimmed.2)

pub returns-clause-boundary : goal.returns-clause-boundary
returns-clause-boundary c =
    let trimmed = c.trim_end.ensures.value in
    let start = c.args.field.now.value.span.start in
    subst (λ n. IsCharBoundary c.args.text.now (start + n)) (sym trimmed.4)
    (cut_in_part c.args.text.now c.range-value.result.now c.trim_end.result.now start c.args.field.now.value.span.end
    trimmed.0 c.utf8.text c.requires.start c.range-value.ensures.value c.requires.ordered c.requires.end.0 trimmed.1
    trimmed.5 c.trim_end.utf8)
