use Rattle.std.proofs.Common.{◌∙◌, ap, eqb, sym}
use Rattle.bibkit_core.proofs.SkippedFacts.{no_lines}
use Rattle.bibkit_core.proofs.skipped.skipped_lines_of.Goals as goal

pub returns-then-is_empty : goal.returns-then-is_empty
returns-then-is_empty c =
    let skipped = c.args.found.now.skipped in
    no_lines skipped.items c.args.name.now
    (ap (λ n. eqb n 0) (sym skipped.ok.0) ∙ sym c.is_empty.ensures ∙ c.if-is_empty.true) c.requires c.new.ensures.bytes
