use Rattle.std.proofs.Common.{◌≡◌, ◌++◌, ◌∙◌, codes, IfOk, ap, map, subst}
use Rattle.std.specs.Fmt.{decimal}
use Rattle.std.specs.String.{string_bytes}
use Rattle.edit_resolve.specs.Views.{uninherited_row}
use Rattle.bibkit_edits.specs.UninheritedNotes.{name_list}
use Rattle.bibkit_edits.proofs.uninherited_notes.uninherited_note.Goals as goal

pub returns : goal.returns
returns c =
    let name = c.args.name.now in
    let place = c.args.place in
    let u = uninherited_row c.args.fields.now in
    subst
    (λ names.
    IfOk c.format.result
    (λ note.
    string_bytes note
    ≡ name ++ (codes ":" ++ (decimal place.line ++ (codes ":" ++ (decimal place.column ++ (codes ": note: entry `" ++ (u.entry.key.text
    ++ (codes "` doesn't inherit " ++ (names ++ (codes " of `" ++ (u.parent.key.text ++ codes "`\n"))))))))))))
    (c.as_str.ensures.value ∙ c.in_ok-names.ensures ∙ ap (λ l. name_list (map (λ n. n.now) l)) c.deref.ensures.value) c.format.ensures.ok
