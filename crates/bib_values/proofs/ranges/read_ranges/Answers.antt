use Rattle.std.proofs.Common.{◌∙◌, sym, ap, map, ◌≤◌, Some, arith, length}
use Rattle.std.specs.Prelude.{encode_utf8_all}
use Rattle.bib_chunks.specs.Formatted.{formatted_chars}
use Rattle.bib_values.specs.Ranges.{range_of, ranges_read, all_of}
use Rattle.bib_values.proofs.RangeFacts.{all_step, all_stop, all_done, part_chars}
use Rattle.bib_values.proofs.ranges.read_ranges.Goals as goal

pub returns-in_default : goal.returns-in_default
unfolding ranges_read
returns-in_default c =
    let spelt =
    part_chars c.part-item.result c.as_str.result.now c.as_str.utf8
    (c.as_str.ensures.value ∙ c.in_ok-text.ensures ∙ ap (λ p. encode_utf8_all (formatted_chars p)) c.as_slice.ensures) in
    sym (ap (λ parts. all_of (map (λ part. range_of (formatted_chars part)) parts))
    (sym (c.as_slice-part-items.ensures ∙ c.in_ok-list.ensures))
    ∙ all_stop (λ part. range_of (formatted_chars part)) c.as_slice-part-items.result.now c.parts.part-index
    c.part-item.result c.parts-test.true c.part-item.is (ap range_of (sym spelt) ∙ sym c.in_default.ensures))

pub parts-preserved : goal.parts-preserved
parts-preserved c =
    let spelt =
    part_chars c.part-item.result c.as_str.result.now c.as_str.utf8
    (c.as_str.ensures.value ∙ c.in_ok-text.ensures ∙ ap (λ p. encode_utf8_all (formatted_chars p)) c.as_slice.ensures) in
    all_step (λ part. range_of (formatted_chars part)) c.as_slice-part-items.result.now c.parts.part-index c.part-item.result
    c.parts.ranges.items c.in-Some.range c.parts-test.true c.part-item.is c.parts.invariant
    (ap range_of (sym spelt) ∙ sym c.in-Some.ensures)
    ∙ ap (λ rs. Some rs) (sym c.in_ok-push.ensures.items)

pub returns : goal.returns
unfolding ranges_read
returns c =
    let end : length c.as_slice-part-items.result.now ≤ c.parts.part-index = omega (arith, c.parts-test.false) in
    all_done (λ part. range_of (formatted_chars part)) c.as_slice-part-items.result.now c.parts.part-index
    c.parts.ranges.items end c.parts.invariant
    ∙ ap (λ parts. all_of (map (λ part. range_of (formatted_chars part)) parts)) (c.as_slice-part-items.ensures ∙ c.in_ok-list.ensures)
