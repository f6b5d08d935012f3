use Rattle.std.proofs.Common.{◌++◌, ◌<◌, get_or, length, sym, ap, ◌∙◌, subst}
use Rattle.bib_syntax.specs.Views.{entry_reading_of, field_of}
use Rattle.edit_entries.specs.Unset.{removal}
use Rattle.edit_entries.proofs.RemovalFacts.{removals_more}
use Rattle.edit_entries.proofs.removing.removals.Goals as goal

pub fields-preserved : goal.fields-preserved
fields-preserved c =
    let e = entry_reading_of c.args.entry.now in
    let item = c.field-item.result in
    let listed = c.deref-field-items.ensures.value in
    let within = subst (λ l. c.fields.index < length l) listed c.fields-test.true in
    let is = c.field-item.is ∙ ap (λ l. get_or l c.fields.index item) listed in
    c.in_ok-push_removal.ensures ∙ ap (λ l. l ++ removal c.args.name.now e c.fields.index (field_of item)) c.fields.invariant
    ∙ sym (removals_more field_of c.args.name.now e c.args.entry.now.v.fields.items c.fields.index item within is)
