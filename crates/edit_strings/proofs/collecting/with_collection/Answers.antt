use Rattle.std.proofs.Common.{ℕ, length, map, refl, sym, ap, ◌∙◌, subst}
use Rattle.std.specs.String.{string_bytes}
use Rattle.std.proofs.lemmas.List.{length-map}
use Rattle.bib_syntax.specs.Views.{entry_reading_of, file_of}
use Rattle.edit_entries.specs.Documents.{Document}
use Rattle.edit_entries.specs.Edits.{edited, edited_all}
use Rattle.edit_entries.specs.EditList.{AreEditsInOrder, edit_of}
use Rattle.edit_entries.specs.LineEnds.{line_end_of}
use Rattle.edit_strings.specs.Collected.{collection, definition_lines, first_entry_start}
use Rattle.edit_strings.specs.Collecting.{string_texts}
use Rattle.edit_strings.specs.Views.{lent_texts}
use Rattle.edit_strings.specs.Exchanged.{Exchange}
use Rattle.edit_strings.specs.Tables.{AreAllFieldsCut, entry_edits, index_in}
use Rattle.edit_strings.proofs.CollectFacts.{all_cut, all_edits_known, index_known, lines_in_order, made_known}
use Rattle.edit_strings.proofs.ExchangedFacts.{edits_are_changes}
use Rattle.edit_strings.proofs.collecting.with_collection.Goals as goal

pub edits-requires-clause-below : goal.edits-requires-clause-below
edits-requires-clause-below c =
    index_known (index_in c.args.collection.now.indices) (lent_texts c.args.texts.now)
    (length c.args.collection.now.names.items) c.requires.index
    (c.requires.count ∙ sym (length-map c.args.texts.now (λ t. t.now)))

pub edits-requires-clause-cut : goal.edits-requires-clause-cut
edits-requires-clause-cut c =
    let d : Document = record { text = c.args.text.now; says = file_of c.args.raw.now } in
    subst (AreAllFieldsCut d.text) (sym (ap (map entry_reading_of) c.deref-3.ensures.value)) (all_cut d c.requires.read)

pub edited_all-requires : goal.edited_all-requires
edited_all-requires c =
    let d : Document = record { text = c.args.text.now; says = file_of c.args.raw.now } in
    let fields = lent_texts c.args.fields.now in
    let texts = lent_texts c.args.texts.now in
    let names = string_texts c.args.collection.now.names.items in
    let edits = all_edits_known d (map edit_of c.deref-4.result.now) _ fields texts names (string_bytes c.in_ok-lines.lines) d.text
    (index_in c.args.collection.now.indices) c.first_entry_start-start.result (map entry_reading_of c.deref-3.result.now) refl
    (ap (map entry_reading_of) c.deref-3.ensures.value) c.requires.index refl
    (c.first_entry_start-start.ensures
    ∙ ap (λ l. first_entry_start (map entry_reading_of l)) (c.deref-2.ensures.value ∙ sym c.deref-3.ensures.value))
    (ap (map edit_of) c.deref-4.ensures.value ∙ c.in_ok-made.ensures) in
    subst (AreEditsInOrder d.text 0) (sym edits)
    (lines_in_order d c.requires.read c.utf8.text (collection fields texts names) (string_bytes c.in_ok-lines.lines))

pub returns : goal.returns
returns c =
    let d : Document = record { text = c.args.text.now; says = file_of c.args.raw.now } in
    let fields = lent_texts c.args.fields.now in
    let texts = lent_texts c.args.texts.now in
    let names = string_texts c.args.collection.now.names.items in
    let start : ℕ = first_entry_start d.says.entries in
    let exchange : Exchange = collection fields texts names in
    let edits = all_edits_known d (map edit_of c.deref-4.result.now) _ fields texts names (string_bytes c.in_ok-lines.lines) d.text
    (index_in c.args.collection.now.indices) c.first_entry_start-start.result (map entry_reading_of c.deref-3.result.now) refl
    (ap (map entry_reading_of) c.deref-3.ensures.value) c.requires.index refl
    (c.first_entry_start-start.ensures
    ∙ ap (λ l. first_entry_start (map entry_reading_of l)) (c.deref-2.ensures.value ∙ sym c.deref-3.ensures.value))
    (ap (map edit_of) c.deref-4.ensures.value ∙ c.in_ok-made.ensures) in
    let lines = c.in_ok-lines.ensures d.says c.requires.known
    ∙ ap (λ ns. definition_lines d.says c.line_end.result.now (string_texts ns) texts) c.deref.ensures.value
    ∙ ap (λ l. definition_lines d.says l names texts) c.line_end.ensures in
    made_known string_bytes c.edited_all.result _ _
    (ap (λ es. edited_all es d.text) edits
    ∙ ap
    (λ l. edited (record { start = start; end = start; bytes = l }) (edited_all (entry_edits exchange d.text d.says.entries) d.text))
    lines
    ∙ ap
    (λ es.
    edited (record { start = start; end = start; bytes = definition_lines d.says (line_end_of d.text) names texts })
    (edited_all es d.text))
    (edits_are_changes (λ e. exchange) d.text d.says.entries)) c.edited_all.ensures
