use Rattle.std.proofs.Common.{◌≡◌, ◌∙◌, ap, sym, subst, length}
use Rattle.std.proofs.lemmas.List.{length-map}
use Rattle.bib_file_entries.specs.Claiming.{place_of}
use Rattle.bib_inheritance.specs.Recovered.{AreRecovered}
use Rattle.bib_inheritance.proofs.DatesRead.{all_taken}
use Rattle.biblatex.proofs.KeptFacts.{kept_are_entries}
use Rattle.biblatex.proofs.RefusalFacts.{entries_count}
use Rattle.bibkit_core.proofs.conditions.resolved_entries.Goals as goal

pub resolve_readable-requires-clause-as_long : goal.resolve_readable-requires-clause-as_long
resolve_readable-requires-clause-as_long c =
    let kept = c.in_ok-entries.ensures.kept in
    ap length c.deref.ensures.value ∙ ap length kept.stand ∙ length-map kept.kept place_of
    ∙ entries_count kept.kept c.in_ok-entries.field-0.entries.items (kept_are_entries kept.read)
    ∙ sym (ap length c.deref_mut.ensures.value)

pub returns : goal.returns
returns c =
    let own = c.in_ok-entries.field-0.entries.items in
    let names = c.in_ok-entries.field-0.names in
    let places = c.in_ok-entries.field-0.spans.items in
    let new = c.resolve_readable.new.entries in
    let unresolved = c.in_ok-resolve_readable.field-0.items in
    let count : length new ≡ length own = c.in_ok-resolve_readable.ensures.length ∙ ap length c.deref_mut.ensures.value in
    let all = all_taken c.in_ok-entries.field-0.entries.len new own (count ∙ sym c.in_ok-entries.field-0.entries.ok.0) in
    record {
      own = own;
      names = names;
      places = places;
      origins = c.in_ok-entries.field-0.origins.items;
      errors = c.in_ok-entries.field-0.errors.items;
      kept = c.in_ok-entries.ensures.kept;
      unresolved = unresolved;
      inherited =
          subst (λ es. AreRecovered places names own es unresolved) (sym all)
          (subst (λ p. AreRecovered p names own new unresolved) c.deref.ensures.value
          (subst (λ es. AreRecovered c.deref.result.now names es new unresolved) c.deref_mut.ensures.value
          c.in_ok-resolve_readable.ensures.recovered));
    }
