use Rattle.std.proofs.Common.{◌≡◌, map, length, sym, ap, subst, arith}
use Rattle.std.specs.Prelude.{IfErr, IfOk}
use Rattle.std.specs.String.{string_bytes}
use Rattle.std.proofs.lemmas.List.{length-map}
use Rattle.bib_text.proofs.ListFacts.{element_at}
use Rattle.bib_syntax.specs.Views.{entry_reading_of, file_of}
use Rattle.edit_entries.specs.Documents.{Document, IsEdited}
use Rattle.edit_entries.specs.NewKeys.{key_for}
use Rattle.edit_entries.specs.NewNames.{IsNewKeyTaken}
use Rattle.edit_entries.specs.References.{CanGetKeys, KeysAreRefused, KeysRenamed, MayGetNewKeys, key_renaming}
use Rattle.edit_entries.specs.Stretches.{AreChangesInOrder, AreEntriesPlaced}
use Rattle.edit_entries.proofs.KeyFacts.{key_of_new, on_no}
use Rattle.edit_entries.proofs.RenamingFacts.{apart_known, entries_placed, renamed_answer, renamed_refusal}
use Rattle.edit_entries.proofs.document.RawDocument.with_keys.Goals as goal
use Rattle.edit_entries.proofs.document.RawDocument.with_keys.Goals.{After-deref-3}

pub with_new_keys-requires-clause-placed : goal.with_new_keys-requires-clause-placed
with_new_keys-requires-clause-placed c =
    let d : Document = record { text = c.self.inside.text.now; says = file_of c.self.inside.raw } in
    subst (λ es. AreEntriesPlaced c.self.inside.text.now (map entry_reading_of es)) (sym c.deref-3.ensures.value)
    (entries_placed d c.self.invariant)

-- the entries can get the keys
can_get : (c : After-deref-3) → CanGetKeys (file_of c.self.inside.raw).entries (key_for c.args.keys)
can_get c = record {
  may = subst (λ es. MayGetNewKeys (map entry_reading_of es) (key_for c.args.keys)) c.deref.ensures.value c.if-not-may_get_keys.ensures;
  free =
      subst (λ es. IsNewKeyTaken (map entry_reading_of es) (key_for c.args.keys) → ⊥) c.deref-2.ensures.value
      (on_no _ _ c.in_ok-is_new_key_taken.field-0 c.if-branch.false c.in_ok-is_new_key_taken.ensures);
}

pub with_new_keys-requires-clause-keys : goal.with_new_keys-requires-clause-keys
with_new_keys-requires-clause-keys c = λ k new below gets.
    let may = (can_get ((goal.at.with_new_keys-requires-clause-keys c).After-deref-3)).may in
    let size = ap length c.deref-3.ensures.value in
    let found =
    element_at (file_of c.self.inside.raw).entries k
    (omega (arith, below, size, length-map c.self.inside.raw.entries.items entry_reading_of)) in
    key_of_new new (may k found.0 new found.1 gets).allowed

pub with_new_keys-requires-clause-apart : goal.with_new_keys-requires-clause-apart
with_new_keys-requires-clause-apart c =
    let d : Document = record { text = c.self.inside.text.now; says = file_of c.self.inside.raw } in
    subst (λ es. AreChangesInOrder c.self.inside.text.now 0 (key_renaming (key_for c.args.keys) (map entry_reading_of es)))
    (sym c.deref-3.ensures.value)
    (apart_known d (key_for c.args.keys) c.self.invariant
    (can_get ((goal.at.with_new_keys-requires-clause-apart c).After-deref-3)).may)

pub returns-clause-renamed : goal.returns-clause-renamed
returns-clause-renamed c =
    let d : Document = record { text = c.self.inside.text.now; says = file_of c.self.inside.raw } in
    let seen : d ≡ c.args.self.now = c.self.view_is in
    subst (λ x. IfOk c.with_new_keys.result (λ text. IsEdited (KeysRenamed x (key_for c.args.keys)) (string_bytes text))) seen
    (renamed_answer string_bytes d (map entry_reading_of c.deref-3.result.now) (key_for c.args.keys) c.with_new_keys.result
    c.self.invariant (ap (map entry_reading_of) c.deref-3.ensures.value) (can_get ((goal.at.returns-clause-renamed c).After-deref-3))
    c.with_new_keys.ensures.text c.with_new_keys.ensures.can c.with_new_keys.ensures.white)

pub returns-clause-refused : goal.returns-clause-refused
returns-clause-refused c =
    let d : Document = record { text = c.self.inside.text.now; says = file_of c.self.inside.raw } in
    let seen : d ≡ c.args.self.now = c.self.view_is in
    subst (λ x. IfErr c.with_new_keys.result (KeysAreRefused x (key_for c.args.keys))) seen
    (renamed_refusal d (map entry_reading_of c.deref-3.result.now) (key_for c.args.keys) c.with_new_keys.result
    (ap (map entry_reading_of) c.deref-3.ensures.value) (can_get ((goal.at.returns-clause-refused c).After-deref-3))
    c.with_new_keys.ensures.refused)
