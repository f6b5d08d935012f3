use Rattle.std.proofs.Common.{◌≡◌, map, ap, subst}
use Rattle.std.specs.String.{string_bytes}
use Rattle.bib_syntax.specs.Views.{entry_reading_of, file_of}
use Rattle.edit_entries.specs.Documents.{Document, EntryRemoved, IsEdited}
use Rattle.edit_entries.proofs.RemovedFacts.{entry_placed, entry_taken}
use Rattle.edit_entries.proofs.SetFacts.{has_entry}
use Rattle.edit_entries.proofs.document.RawDocument.remove_entry.Goals as goal

pub without_entry-requires : goal.without_entry-requires
without_entry-requires c =
    let d : Document = record { text = c.self.inside.text.now; says = file_of c.self.inside.raw } in
    let e = entry_reading_of c.in-Some.entry.now in
    let found = c.in-Some.ensures in
    let entry =
    has_entry d (map entry_reading_of c.deref.result.now) c.args.key.now found.0 e
    (ap (map entry_reading_of) c.deref.ensures.value) found.1 found.2 in
    entry_placed d found.0 e c.self.invariant entry.here

pub returns-in_ok-without_entry-in-Some-clause-removed : goal.returns-in_ok-without_entry-in-Some-clause-removed
returns-in_ok-without_entry-in-Some-clause-removed c =
    let d : Document = record { text = c.self.inside.text.now; says = file_of c.self.inside.raw } in
    let seen : d ≡ c.args.self.now = c.self.view_is in
    let e = entry_reading_of c.in-Some.entry.now in
    let found = c.in-Some.ensures in
    let entry =
    has_entry d (map entry_reading_of c.deref.result.now) c.args.key.now found.0 e
    (ap (map entry_reading_of) c.deref.ensures.value) found.1 found.2 in
    subst (λ x. IsEdited (EntryRemoved x c.args.key.now) (string_bytes c.in_ok-without_entry-in-Some.field-0)) seen
    (entry_taken string_bytes d c.args.key.now found.0 e c.in_ok-without_entry-in-Some.field-0 c.self.invariant entry
    c.in_ok-without_entry-in-Some.ensures)
