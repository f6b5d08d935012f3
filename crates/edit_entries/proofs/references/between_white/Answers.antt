use Rattle.std.proofs.Common.{take, sym, ap, ◌∙◌, subst, arith}
use Rattle.std.specs.Str.{IsUtf8}
use Rattle.std.proofs.lemmas.Str.{IsCharBoundary-from_take}
use Rattle.edit_entries.proofs.WhiteFacts.{start_cut}
use Rattle.edit_entries.proofs.references.between_white.Goals as goal

pub range-requires-clause-end_boundary : goal.range-requires-clause-end_boundary
range-requires-clause-end_boundary c =
    let trimmed = c.trim_start.ensures.value in
    start_cut c.args.element.now c.trim_start.result.now trimmed.0 trimmed.1 trimmed.4 c.trim_start.utf8

pub range_from-requires : goal.range_from-requires
range_from-requires c = λ _.
    let trimmed = c.trim_end-end.ensures.value in
    let same = trimmed.1 ∙ ap (λ n. take n c.args.element.now) (sym trimmed.4) in
    IsCharBoundary-from_take c.args.element.now _ c.utf8.element (omega (arith, trimmed.4, trimmed.5))
    (subst IsUtf8 same c.trim_end-end.utf8)
