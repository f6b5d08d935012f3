use Rattle.std.proofs.Common.{◌≡◌, map, subst}
use Rattle.std.specs.String.{string_bytes}
use Rattle.bib_syntax.specs.Views.{entry_reading_of, field_of, file_of}
use Rattle.edit_entries.specs.Documents.{AgreeOnDefinitions, Document, EntriesAdded, IsEdited, SharesNoName, joined_documents}
use Rattle.edit_entries.specs.NameSets.{NoneSharesName}
use Rattle.edit_entries.specs.NewNames.{HaveNewKeys}
use Rattle.edit_entries.proofs.JoinedFacts.{documents_joined}
use Rattle.edit_entries.proofs.KeyFacts.{on_no, on_yes}
use Rattle.edit_entries.proofs.document.RawDocument.add_entries.Goals as goal

pub returns-then-branch-clause-refused : goal.returns-then-branch-clause-refused
returns-then-branch-clause-refused c =
    let d : Document = record { text = c.self.inside.text.now; says = file_of c.self.inside.raw } in
    let other : Document = record { text = c.more.inside.text.now; says = file_of c.more.inside.raw } in
    let seen : d ≡ c.args.self.now = c.self.view_is in
    let other_seen : other ≡ c.args.more.now = c.more.view_is in
    let shared : SharesNoName d other → ⊥ =
    subst (λ es. NoneSharesName (map entry_reading_of c.self.inside.raw.entries.items) (map entry_reading_of es) → ⊥)
    c.deref-2.ensures.value
    (subst (λ es. NoneSharesName (map entry_reading_of es) (map entry_reading_of c.deref-2.result.now) → ⊥)
    c.deref.ensures.value
    (on_yes _ _ c.in_ok-shares_name.field-0 c.if-branch.true c.in_ok-shares_name.ensures)) in
    subst (λ x. SharesNoName x c.args.more.now → ⊥) seen (subst (λ y. SharesNoName d y → ⊥) other_seen shared)

pub returns-then-not-have_new_keys-clause-refused : goal.returns-then-not-have_new_keys-clause-refused
returns-then-not-have_new_keys-clause-refused c =
    let other : Document = record { text = c.more.inside.text.now; says = file_of c.more.inside.raw } in
    let other_seen : other ≡ c.args.more.now = c.more.view_is in
    let unsafe : HaveNewKeys other.says.entries → ⊥ =
    subst (λ es. HaveNewKeys (map entry_reading_of es) → ⊥) c.deref-3.ensures.value c.if-not-have_new_keys.ensures in
    subst (λ y. HaveNewKeys y.says.entries → ⊥) other_seen unsafe

pub returns-then-not-branch-clause-refused : goal.returns-then-not-branch-clause-refused
returns-then-not-branch-clause-refused c =
    let d : Document = record { text = c.self.inside.text.now; says = file_of c.self.inside.raw } in
    let other : Document = record { text = c.more.inside.text.now; says = file_of c.more.inside.raw } in
    let seen : d ≡ c.args.self.now = c.self.view_is in
    let other_seen : other ≡ c.args.more.now = c.more.view_is in
    let differs : AgreeOnDefinitions d.says.abbreviations other.says.abbreviations → ⊥ =
    subst (λ fs. AgreeOnDefinitions (map field_of c.self.inside.raw.abbreviations.items) (map field_of fs) → ⊥)
    c.deref-5.ensures.value
    (subst (λ fs. AgreeOnDefinitions (map field_of fs) (map field_of c.deref-5.result.now) → ⊥)
    c.deref-4.ensures.value
    (on_no _ _ c.in_ok-agree_on_definitions.field-0 c.if-not-branch.true c.in_ok-agree_on_definitions.ensures)) in
    subst (λ x. AgreeOnDefinitions x.says.abbreviations c.args.more.now.says.abbreviations → ⊥) seen
    (subst (λ y. AgreeOnDefinitions d.says.abbreviations y.says.abbreviations → ⊥) other_seen differs)

pub returns-clause-added : goal.returns-clause-added
returns-clause-added c =
    let d : Document = record { text = c.self.inside.text.now; says = file_of c.self.inside.raw } in
    let other : Document = record { text = c.more.inside.text.now; says = file_of c.more.inside.raw } in
    let seen : d ≡ c.args.self.now = c.self.view_is in
    let other_seen : other ≡ c.args.more.now = c.more.view_is in
    let fresh : SharesNoName d other =
    subst (λ es. NoneSharesName (map entry_reading_of c.self.inside.raw.entries.items) (map entry_reading_of es))
    c.deref-2.ensures.value
    (subst (λ es. NoneSharesName (map entry_reading_of es) (map entry_reading_of c.deref-2.result.now))
    c.deref.ensures.value
    (on_no _ _ c.in_ok-shares_name.field-0 c.if-branch.false c.in_ok-shares_name.ensures)) in
    let keys : HaveNewKeys other.says.entries =
    subst (λ es. HaveNewKeys (map entry_reading_of es)) c.deref-3.ensures.value c.if-not-have_new_keys.ensures in
    let agree : AgreeOnDefinitions d.says.abbreviations other.says.abbreviations =
    subst (λ fs. AgreeOnDefinitions (map field_of c.self.inside.raw.abbreviations.items) (map field_of fs))
    c.deref-5.ensures.value
    (subst (λ fs. AgreeOnDefinitions (map field_of fs) (map field_of c.deref-5.result.now))
    c.deref-4.ensures.value
    (on_yes _ _ c.in_ok-agree_on_definitions.field-0 c.if-not-branch.false c.in_ok-agree_on_definitions.ensures)) in
    let edit : IsEdited (EntriesAdded d other) (string_bytes c.in_ok-joined.field-0) = record {
      document = joined_documents d other;
      outcome = EntriesAdded.added fresh keys agree;
      is = c.in_ok-joined.ensures;
      read = documents_joined d other c.self.invariant c.more.invariant;
    } in
    subst (λ x. IsEdited (EntriesAdded x c.args.more.now) (string_bytes c.in_ok-joined.field-0)) seen
    (subst (λ y. IsEdited (EntriesAdded d y) (string_bytes c.in_ok-joined.field-0)) other_seen edit)
