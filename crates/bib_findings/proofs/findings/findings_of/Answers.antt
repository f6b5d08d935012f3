use Rattle.std.proofs.Common.{◌≡◌, ◌∙◌, ◌++◌, map, length, ap, sym, subst}
use Rattle.std.proofs.lemmas.List.{length-map}
use Rattle.bib_inheritance.specs.Recovered.{AreRecovered}
use Rattle.bib_inheritance.proofs.DatesRead.{all_taken}
use Rattle.bib_syntax.specs.Views.{entry_reading_of, field_of, file_of}
use Rattle.bib_findings.specs.Findings.{AreFindingsIn, AreFindingsOf, entries_said}
use Rattle.bib_findings.proofs.RecoveredFacts.{between_of, findings_of, if_ok_more, lacking_same, origins_count, origins_within, places_count, within_of}
use Rattle.bib_findings.proofs.findings.findings_of.Goals as goal

pub between-requires-clause-same_length : goal.between-requires-clause-same_length
between-requires-clause-same_length c =
    ap length c.deref-3.ensures.value ∙ origins_count c.in_ok-entries.ensures.kept ∙ sym (ap length c.deref-4.ensures.value)

pub between-requires-clause-there : goal.between-requires-clause-there
between-requires-clause-there c =
    let said = c.args.recovery.now.raw.entries.items in
    let says = file_of c.args.recovery.now.raw in
    within_of says.entries c.in_ok-entries.field-0.origins.items c.deref-3.result.now (length c.deref-2.result.now)
    (origins_within c.in_ok-entries.ensures.kept) c.deref-3.ensures.value
    (length-map said entry_reading_of ∙ sym (ap length c.deref-2.ensures.value))

pub lacking_flags-requires-clause-same_length : goal.lacking_flags-requires-clause-same_length
lacking_flags-requires-clause-same_length c =
    ap length c.deref-7.ensures.value ∙ origins_count c.in_ok-entries.ensures.kept ∙ sym (ap length c.deref-8.ensures.value)

pub resolve_readable-requires-clause-as_long : goal.resolve_readable-requires-clause-as_long
resolve_readable-requires-clause-as_long c =
    ap length c.deref-9.ensures.value ∙ places_count c.in_ok-entries.ensures.kept ∙ sym (ap length c.deref_mut.ensures.value)

pub findings_in-requires-clause-same_length : goal.findings_in-requires-clause-same_length
findings_in-requires-clause-same_length c =
    let own = c.in_ok-entries.field-0.entries.items in
    let count : length c.resolve_readable.new.entries ≡ length own =
    c.in_ok-unresolved.ensures.length ∙ ap length c.deref_mut.ensures.value in
    let all =
    all_taken c.in_ok-entries.field-0.entries.len c.resolve_readable.new.entries own
    (count ∙ sym c.in_ok-entries.field-0.entries.ok.0) in
    ap length c.deref-14.ensures.value ∙ origins_count c.in_ok-entries.ensures.kept ∙ sym count
    ∙ sym (ap length (c.deref-15.ensures.value ∙ all))

pub findings_in-requires-clause-there : goal.findings_in-requires-clause-there
findings_in-requires-clause-there c =
    let said = c.args.recovery.now.raw.entries.items in
    let says = file_of c.args.recovery.now.raw in
    within_of says.entries c.in_ok-entries.field-0.origins.items c.deref-14.result.now (length c.deref-13.result.now)
    (origins_within c.in_ok-entries.ensures.kept) c.deref-14.ensures.value
    (length-map said entry_reading_of ∙ sym (ap length c.deref-13.ensures.value))

pub returns : goal.returns
returns c =
    let says = file_of c.args.recovery.now.raw in
    let skipped = c.args.recovery.now.skipped.items in
    let own = c.in_ok-entries.field-0.entries.items in
    let names = c.in_ok-entries.field-0.names in
    let places = c.in_ok-entries.field-0.spans.items in
    let origins = c.in_ok-entries.field-0.origins.items in
    let of_entries = c.in_ok-entries.field-0.errors.items in
    let entries = c.resolve_readable.new.entries in
    let of_references = c.in_ok-unresolved.unresolved.items in
    let linked = c.in_ok-linked.linked.items in
    let count : length entries ≡ length own = c.in_ok-unresolved.ensures.length ∙ ap length c.deref_mut.ensures.value in
    let all = all_taken c.in_ok-entries.field-0.entries.len entries own (count ∙ sym c.in_ok-entries.field-0.entries.ok.0) in
    let resolved = subst (λ p. AreRecovered p names own entries of_references) c.deref-9.ensures.value
    (subst (λ es. AreRecovered c.deref-9.result.now names es entries of_references) c.deref_mut.ensures.value
    c.in_ok-unresolved.ensures.recovered) in
    let are_between = between_of c.args.text.now c.args.ends.now c.deref.result.now skipped names (entries_said c.deref-2.result.now)
    says.entries
    c.deref-3.result.now origins c.deref-4.result.now own (map field_of c.as_slice-definitions.result.now) says.abbreviations linked
    c.deref.ensures.value (ap (map entry_reading_of) c.deref-2.ensures.value) c.deref-3.ensures.value c.deref-4.ensures.value
    (ap (map field_of) c.as_slice-definitions.ensures.value) c.in_ok-linked.ensures in
    let lacking = c.in_ok-lacking.lacking.items in
    let are_lacking = lacking_same c.deref-5.result.now skipped names (entries_said c.deref-6.result.now) says.entries
    c.deref-7.result.now origins c.deref-8.result.now own lacking
    c.deref-5.ensures.value (ap (map entry_reading_of) c.deref-6.ensures.value) c.deref-7.ensures.value c.deref-8.ensures.value
    c.in_ok-lacking.ensures in
    if_ok_more
    (λ found.
    AreFindingsIn c.args.text.now c.deref-10.result.now c.deref-11.result.now (map field_of c.as_slice-definitions.result.now)
    c.deref-12.result.now (entries_said c.deref-13.result.now)
    c.deref-14.result.now c.deref-15.result.now linked found.items)
    (λ found. AreFindingsOf c.args.text.now c.args.ends.now says skipped found.items) c.findings_in.result
    (λ found are. record {
      own = own;
      names = names;
      places = places;
      origins = origins;
      of_entries = of_entries;
      kept = c.in_ok-entries.ensures.kept;
      lacking = lacking;
      are_lacking = are_lacking;
      entries = entries;
      of_references = of_references;
      resolved = resolved;
      between = linked;
      are_between = are_between;
      are =
          findings_of c.args.text.now c.deref-10.result.now skipped c.deref-11.result.now lacking
          (map field_of c.as_slice-definitions.result.now) says.abbreviations c.deref-12.result.now
          (of_entries ++ of_references) (entries_said c.deref-13.result.now) says.entries
          c.deref-14.result.now origins c.deref-15.result.now entries
          linked found.items
          c.deref-10.ensures.value c.deref-11.ensures.value (ap (map field_of) c.as_slice-definitions.ensures.value)
          (c.deref-12.ensures.value ∙ c.in_ok-append.ensures.items)
          (ap (map entry_reading_of) c.deref-13.ensures.value) c.deref-14.ensures.value
          (c.deref-15.ensures.value ∙ all) are;
    })
    c.findings_in.ensures
