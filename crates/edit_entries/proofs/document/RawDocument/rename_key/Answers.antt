use Rattle.std.proofs.Common.{◌≡◌, map, sym, ap, ◌∙◌, subst}
use Rattle.std.specs.String.{string_bytes}
use Rattle.bib_syntax.specs.Views.{entry_reading_of, file_of}
use Rattle.edit_entries.specs.Documents.{Document, HasEntry, IsEdited}
use Rattle.edit_entries.specs.References.{KeyRenamed}
use Rattle.edit_entries.proofs.RenamingFacts.{entry_found, key_answer, key_refusal}
use Rattle.edit_entries.proofs.document.RawDocument.rename_key.Goals as goal

pub returns-then-eq-clause-renamed : goal.returns-then-eq-clause-renamed
returns-then-eq-clause-renamed c =
    let d : Document = record { text = c.self.inside.text.now; says = file_of c.self.inside.raw } in
    let seen : d ≡ c.args.self.now = c.self.view_is in
    let found =
    entry_found d (map entry_reading_of c.deref.result.now) c.args.old.now c.in-Some.index
    (ap (map entry_reading_of) c.deref.ensures.value) (sym c.in-Some.ensures.is) in
    subst (λ x. IsEdited (KeyRenamed x c.args.old.now c.args.new.now) (string_bytes c.in_ok-from_str.field-0)) seen
    (record {
      document = d;
      outcome = KeyRenamed.same found.1 (sym c.eq.ensures ∙ c.if-eq.true);
      is = c.in_ok-from_str.ensures.ok;
      read = c.self.invariant;
    })

pub returns-clause-renamed : goal.returns-clause-renamed
returns-clause-renamed c =
    let d : Document = record { text = c.self.inside.text.now; says = file_of c.self.inside.raw } in
    let seen : d ≡ c.args.self.now = c.self.view_is in
    let found =
    entry_found d (map entry_reading_of c.deref.result.now) c.args.old.now c.in-Some.index
    (ap (map entry_reading_of) c.deref.ensures.value) (sym c.in-Some.ensures.is) in
    key_answer string_bytes c.args.self.now c.args.old.now c.args.new.now c.in-Some.index found.0 c.with_keys.result
    (subst (λ x. HasEntry x c.args.old.now c.in-Some.index found.0) seen found.1) (sym c.eq.ensures ∙ c.if-eq.false)
    c.with_keys.ensures.renamed

pub returns-clause-refused : goal.returns-clause-refused
returns-clause-refused c =
    let d : Document = record { text = c.self.inside.text.now; says = file_of c.self.inside.raw } in
    let seen : d ≡ c.args.self.now = c.self.view_is in
    let found =
    entry_found d (map entry_reading_of c.deref.result.now) c.args.old.now c.in-Some.index
    (ap (map entry_reading_of) c.deref.ensures.value) (sym c.in-Some.ensures.is) in
    key_refusal c.args.self.now c.args.old.now c.args.new.now c.in-Some.index found.0 c.with_keys.result
    (subst (λ x. HasEntry x c.args.old.now c.in-Some.index found.0) seen found.1) (sym c.eq.ensures ∙ c.if-eq.false)
    c.with_keys.ensures.refused
