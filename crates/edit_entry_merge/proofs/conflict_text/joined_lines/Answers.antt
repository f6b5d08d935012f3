use Rattle.std.proofs.Common.{◌∙◌, ap, arith}
use Rattle.std.specs.String.{string_bytes}
use Rattle.edit_entry_merge.proofs.LineFacts.{first_line, later_line}
use Rattle.edit_entry_merge.proofs.conflict_text.joined_lines.Goals as goal
use Rattle.edit_entry_merge.proofs.conflict_text.joined_lines.Goals.{then-index-ne0+in_ok-push_str, else-index-ne0}

pub lines-preserved : goal.lines-preserved
lines-preserved c =
    elim c.if-index-ne0.branch [
      | then-index-ne0+in_ok-push_str w ↦
          later_line c.args.lines.now c.lines.index _ c.lines-test.true (string_bytes c.lines.text) (string_bytes c.if-index-ne0.text) _
          c.lines.invariant (ap string_bytes w.text-is ∙ w.in_ok-push_str.ensures.bytes) c.in_ok-push_str-2.ensures.bytes
          (omega (arith, w.if-index-ne0.true))
      | else-index-ne0 w ↦
          first_line c.args.lines.now c.lines.index _ c.lines-test.true (string_bytes c.lines.text) (string_bytes c.if-index-ne0.text) _
          c.lines.invariant (ap string_bytes w.text-is) c.in_ok-push_str-2.ensures.bytes (omega (arith, w.if-index-ne0.false))
    ]
