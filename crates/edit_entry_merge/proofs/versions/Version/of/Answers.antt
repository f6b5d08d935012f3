use Rattle.std.proofs.Common.{◌≡◌, ◌∷◌, [], ◌∙◌, ap, arith, length, map, subst, sym, true, false}
use Rattle.std.specs.Prelude.{◌==◌, MatchOption}
use Rattle.std.proofs.lemmas.List.{length-map}
use Rattle.bib_syntax.specs.Reading.{EntryReading}
use Rattle.bib_syntax.specs.Views.{entry_reading_of, field_of}
use Rattle.edit_entries.specs.Documents.{Document}
use Rattle.edit_entry_merge.specs.Versions.{have_distinct_names, version_by}
use Rattle.edit_entry_merge.specs.Working.{HasFirst}
use Rattle.edit_entry_merge.proofs.VersionFacts.{one_item, version_is}
use Rattle.edit_entry_merge.proofs.versions.Version.of.Goals as goal

pub returns-clause-version : goal.returns-clause-version
returns-clause-version c =
    let d : Document = c.args.document.now in
    let x = c.entry-item.result in
    let e : EntryReading = entry_reading_of x in
    let slice = c.as_slice.result.now in
    let one : slice ≡ x ∷ [] = one_item slice x (omega (arith, c.in-len1.len_at_least, c.in-len1.len_below)) c.entry-item.is in
    let entries : map entry_reading_of slice ≡ d.says.entries =
    ap (map entry_reading_of) c.as_slice.ensures.value ∙ ap (λ f. f.entries) c.raw.ensures.says in
    let known =
    subst
    (λ o.
    MatchOption o (have_distinct_names (map field_of c.deref.result.now) ≡ false)
    (λ names. HasFirst names (map field_of c.deref.result.now) × (have_distinct_names (map field_of c.deref.result.now) ≡ true)))
    c.in-Some.is c.in_ok-fields.ensures in
    let distinct : have_distinct_names e.fields ≡ true =
    subst (λ l. have_distinct_names (map field_of l) ≡ true) c.deref.ensures.value known.1 in
    let some : (length e.fields == 0) ≡ false =
    ap (λ n. n == 0) (length-map x.v.fields.items field_of ∙ sym (ap length c.deref.ensures.value) ∙ c.deref.ensures.len)
    ∙ sym c.is_empty.ensures ∙ c.if-is_empty.false in
    version_is c.text.result.now (map entry_reading_of slice) e (ap (map entry_reading_of) one) some distinct
    ∙ ap (λ es. version_by c.text.result.now es) entries ∙ ap (λ t. version_by t d.says.entries) c.text.ensures
