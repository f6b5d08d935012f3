use Rattle.std.proofs.Common.{◌≡◌, ◌∙◌, ap, sym, subst, refl, inl, inr, length, map}
use Rattle.std.proofs.lemmas.List.{length-map}
use Rattle.std.proofs.lemmas.Result.{err_from_is_err_and}
use Rattle.bib_collections.specs.Graph.{IsTopologicalOrder}
use Rattle.bib_collections.specs.Names.{AreIndicesBelow}
use Rattle.bib_syntax.specs.Views.{entry_reading_of, file_of}
use Rattle.bib_inheritance.specs.Resolving.{AreResolved, IsResolvingError, graph_by}
use Rattle.biblatex.specs.Resolved.{IsFirstErrorOf, IsLoaded}
use Rattle.bib_inheritance.proofs.DatesRead.{all_taken}
use Rattle.biblatex.proofs.RefusalFacts.{entries_count, loaded, resolving_reported}
use Rattle.biblatex.proofs.ResolvedFacts.{accepted_faultless, with_names}
use Rattle.biblatex.proofs.bibliography.Bibliography.from_raw_counted.Goals as goal

pub returns-in_err-entries-clause-refused : goal.returns-in_err-entries-clause-refused
returns-in_err-entries-clause-refused c =
    let p = err_from_is_err_and c.from_residual-in_err-entries.result c.from_residual-in_err-entries.ensures.1 in
    rw (p.1, p.2) (elim c.in_err-entries.ensures.refused [
      | inl memory ↦ inl memory
      | inr error ↦ inr (IsFirstErrorOf.entry error, λ accepted. accepted_faultless accepted (IsFirstErrorOf.entry error))
    ])

pub resolve-requires-clause-as_long : goal.resolve-requires-clause-as_long
resolve-requires-clause-as_long c =
    let spans = c.deref-2.ensures.value ∙ c.in_ok-spans.ensures ∙ ap (map (λ r. r.span)) c.deref.ensures.value in
    ap length spans ∙ length-map c.args.raw.entries.items (λ r. r.span) ∙ sym (length-map c.args.raw.entries.items entry_reading_of)
    ∙ entries_count (map entry_reading_of c.args.raw.entries.items) c.in_ok-entries.entries.items
    c.in_ok-entries.ensures.loaded.read ∙ sym (ap length c.deref_mut.ensures.value)

pub resolve-requires-clause-below : goal.resolve-requires-clause-below
resolve-requires-clause-below c =
    subst (λ es. AreIndicesBelow (length es) c.in_ok-entries.names) (sym c.deref_mut.ensures.value) c.in_ok-entries.ensures.below

pub returns-in_err-turns-clause-refused : goal.returns-in_err-turns-clause-refused
returns-in_err-turns-clause-refused c =
    let p = err_from_is_err_and c.from_residual-in_err-turns.result c.from_residual-in_err-turns.ensures.1 in
    let spans = c.deref-2.ensures.value ∙ c.in_ok-spans.ensures ∙ ap (map (λ r. r.span)) c.deref.ensures.value in
    let own = c.in_ok-entries.entries.items in
    let names = c.in_ok-entries.names in
    rw (p.1, p.2) (elim c.in_err-turns.ensures.refused [
      | inl memory ↦ inl memory
      | inr error ↦
          let reported = resolving_reported c.args.raw.entries.items own names _ refl
          c.in_ok-entries.ensures.loaded.read (ap (λ l. l.names) c.in_ok-entries.ensures.loaded.bibliography)
          (subst (λ s. IsResolvingError s own (graph_by names own) c.in_err-turns.field-0.0) spans
          (subst (λ es. IsResolvingError c.deref-2.result.now es (graph_by names es) c.in_err-turns.field-0.0)
          c.deref_mut.ensures.value error))
          in
          inr (reported, λ accepted. accepted_faultless accepted reported)
    ])

pub from_names-requires : goal.from_names-requires
from_names-requires c =
    let count : length c.resolve.new.entries ≡ length c.in_ok-entries.entries.items =
    c.in_ok-turns.ensures.length ∙ ap length c.deref_mut.ensures.value in
    let all =
    all_taken c.in_ok-entries.entries.len c.resolve.new.entries c.in_ok-entries.entries.items
    (count ∙ sym c.in_ok-entries.entries.ok.0) in
    subst (λ n. AreIndicesBelow n c.in_ok-entries.names) (sym (ap length all ∙ count)) c.in_ok-entries.ensures.below

pub returns-clause-loaded : goal.returns-clause-loaded
returns-clause-loaded c =
    let own = c.in_ok-entries.entries.items in
    let names = c.in_ok-entries.names in
    let count : length c.resolve.new.entries ≡ length own = c.in_ok-turns.ensures.length ∙ ap length c.deref_mut.ensures.value in
    let all = all_taken c.in_ok-entries.entries.len c.resolve.new.entries own (count ∙ sym c.in_ok-entries.entries.ok.0) in
    subst (IsLoaded (file_of c.args.raw)) (sym (c.from_names.ensures ∙ ap (λ es. with_names es names) all))
    (loaded own c.resolve.new.entries names c.in_ok-entries.ensures.loaded.read
    (ap (λ l. l.names) c.in_ok-entries.ensures.loaded.bibliography)
    (subst (λ es. AreResolved es (graph_by names es) c.resolve.new.entries) c.deref_mut.ensures.value c.in_ok-turns.ensures.resolved))

pub returns-clause-turns : goal.returns-clause-turns
returns-clause-turns c =
    let own = c.in_ok-entries.entries.items in
    let turns = c.in_ok-turns.turns.items in (
      own,
      c.in_ok-entries.ensures.loaded.read,
      subst (λ names. IsTopologicalOrder (graph_by names own) turns)
          (sym (ap (λ l. l.names) c.in_ok-entries.ensures.loaded.bibliography))
          (subst (λ es. IsTopologicalOrder (graph_by c.in_ok-entries.names es) turns) c.deref_mut.ensures.value
          c.in_ok-turns.ensures.turns),
    )
