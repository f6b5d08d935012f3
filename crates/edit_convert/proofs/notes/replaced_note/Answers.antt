use Rattle.std.proofs.Common.{sym, ap, ◌∙◌}
use Rattle.std.specs.Option.{option_map}
use Rattle.edit_convert.specs.Tables.{sides_as_written}
use Rattle.edit_convert.proofs.ReplacementFacts.{note_of_parts, note_of_sides}
use Rattle.edit_convert.proofs.notes.replaced_note.Goals as goal

pub returns-then-has_unread_parts : goal.returns-then-has_unread_parts
returns-then-has_unread_parts c =
    note_of_sides c.args.changes.now.defines _ _ _ (sym c.in_ok-sides.ensures ∙ ap (option_map sides_as_written) c.in-Some.is)
    (sym c.has_unread_parts.ensures ∙ c.if-has_unread_parts.true)
    ∙ note_of_parts c.args.changes.now.defines _ _ _ _ (sym c.is_replaced_by_one.ensures ∙ c.if-is_replaced_by_one.false)

pub returns : goal.returns
returns c =
    note_of_sides c.args.changes.now.defines _ _ _ (sym c.in_ok-sides.ensures ∙ ap (option_map sides_as_written) c.in-Some.is)
    (sym c.has_unread_parts.ensures ∙ c.if-has_unread_parts.false)
    ∙ note_of_parts c.args.changes.now.defines _ _ _ _ (sym c.is_replaced_by_one.ensures ∙ c.if-is_replaced_by_one.false)
