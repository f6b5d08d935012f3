use Rattle.std.proofs.Common.{◌≡◌, MatchOption, map, subst}
use Rattle.bib_syntax.specs.Views.{entry_reading_of, file_of}
use Rattle.edit_entries.specs.Documents.{Document}
use Rattle.edit_entries.specs.NewNames.{HaveNewKeys, IsFirstUnsafeKey}
use Rattle.edit_entries.proofs.document.RawDocument.first_unsafe_key.Goals as goal

pub returns : goal.returns
returns c =
    let d : Document = record { text = c.self.inside.text.now; says = file_of c.self.inside.raw } in
    let seen : d ≡ c.args.self.now = c.self.view_is in
    subst
    (λ x.
    MatchOption c.first_unsafe_key.result (HaveNewKeys x.says.entries) (λ key. IsFirstUnsafeKey x.says.entries key.now)) seen
    (subst
    (λ es.
    MatchOption c.first_unsafe_key.result (HaveNewKeys (map entry_reading_of es))
    (λ key. IsFirstUnsafeKey (map entry_reading_of es) key.now)) c.deref.ensures.value c.first_unsafe_key.ensures)
