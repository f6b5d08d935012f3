use Rattle.std.proofs.Common.{◌≡◌, ◌∙◌, ap, sym, subst, length}
use Rattle.std.proofs.lemmas.List.{length-map}
use Rattle.bib_file_entries.specs.Claiming.{place_of}
use Rattle.bib_collections.specs.Names.{AreIndicesBelow}
use Rattle.bib_inheritance.specs.Recovered.{AreRecovered}
use Rattle.bib_inheritance.proofs.DatesRead.{all_taken}
use Rattle.bib_syntax.specs.Views.{file_of}
use Rattle.biblatex.specs.BibliographyRecovery.{IsRecoveredBibliography}
use Rattle.biblatex.proofs.KeptFacts.{kept_are_entries}
use Rattle.biblatex.proofs.RecoveredLaws.{recovered_of}
use Rattle.biblatex.proofs.RefusalFacts.{entries_count}
use Rattle.biblatex.proofs.ResolvedFacts.{with_names}
use Rattle.biblatex.proofs.bibliography.Bibliography.recover.Goals as goal

pub resolve_readable-requires-clause-as_long : goal.resolve_readable-requires-clause-as_long
resolve_readable-requires-clause-as_long c =
    let kept = c.in_ok-entries.ensures.kept in
    ap length c.deref.ensures.value ∙ ap length kept.stand ∙ length-map kept.kept place_of
    ∙ entries_count kept.kept c.in_ok-entries.field-0.entries.items (kept_are_entries kept.read)
    ∙ sym (ap length c.deref_mut.ensures.value)

pub from_names-requires : goal.from_names-requires
from_names-requires c =
    let own = c.in_ok-entries.field-0.entries.items in
    let count : length c.resolve_readable.new.entries ≡ length own =
    c.in_ok-unresolved.ensures.length ∙ ap length c.deref_mut.ensures.value in
    let all =
    all_taken c.in_ok-entries.field-0.entries.len c.resolve_readable.new.entries own
    (count ∙ sym c.in_ok-entries.field-0.entries.ok.0) in
    subst (λ n. AreIndicesBelow n c.in_ok-entries.field-0.names) (sym (ap length all ∙ count)) c.in_ok-entries.ensures.below

pub returns : goal.returns
returns c =
    let own = c.in_ok-entries.field-0.entries.items in
    let names = c.in_ok-entries.field-0.names in
    let kept = c.in_ok-entries.ensures.kept in
    let count : length c.resolve_readable.new.entries ≡ length own =
    c.in_ok-unresolved.ensures.length ∙ ap length c.deref_mut.ensures.value in
    let all =
    all_taken c.in_ok-entries.field-0.entries.len c.resolve_readable.new.entries own
    (count ∙ sym c.in_ok-entries.field-0.entries.ok.0) in
    let resolved =
    subst
    (λ es.
    AreRecovered c.deref.result.now names es c.resolve_readable.new.entries
    c.in_ok-unresolved.unresolved.items) c.deref_mut.ensures.value c.in_ok-unresolved.ensures.recovered in
    subst
    (λ b.
    IsRecoveredBibliography c.args.src.now b c.in_ok-entries.field-0.origins.items
    c.in_ok-raw.field-0.skipped.items c.append.new.self.items)
    (sym (c.from_names.ensures ∙ ap (λ es. with_names es names) all))
    (recovered_of (file_of c.in_ok-raw.field-0.raw) kept.kept own c.resolve_readable.new.entries names
    c.deref.result.now c.in_ok-entries.field-0.origins.items c.in_ok-entries.field-0.errors.items
    c.in_ok-unresolved.unresolved.items
    c.in_ok-raw.ensures kept.read (c.deref.ensures.value ∙ kept.stand) kept.origin (ap (λ l. l.names) kept.bibliography)
    resolved c.in_ok-append.ensures.items)
