use Rattle.std.proofs.Common.{◌≡◌, ◌-◌, take, ap, ◌∙◌, arith}
use Rattle.edit_entries.proofs.WhiteBeforeFacts.{white_cut}
use Rattle.edit_entries.proofs.layout.white_before.Goals as goal

pub returns : goal.returns
returns c =
    let size : c.args.at - 0 ≡ c.args.at = omega arith in
    white_cut c.args.text.now c.range-before.result.now c.trim_ascii_end-rest.result.now c.range_from.result.now c.args.at
    c.requires.0 (c.range-before.ensures.value ∙ ap (λ n. take n c.args.text.now) size) c.trim_ascii_end-rest.ensures.value
    c.range_from.ensures.value
