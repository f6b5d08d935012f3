use Rattle.std.proofs.Common.{◌≡◌, [], ◌∷◌, ◌++◌, ◌+◌, map, take, ap, refl, sym, subst, ◌∙◌}
use Rattle.std.proofs.lemmas.List.{map_more}
use Rattle.bib_syntax.specs.Views.{entry_reading_of}
use Rattle.bib_findings.specs.Starts.{AreEntriesByStart}
use Rattle.bib_findings.proofs.StartFacts.{starts_more, starts_same}
use Rattle.bib_findings.proofs.cuts.entries_by_start.Goals as goal
use Rattle.bib_findings.proofs.cuts.entries_by_start.Goals.{then-not-contains_key+in_ok-insert, else-not-contains_key}

pub entries-preserved : goal.entries-preserved
entries-preserved c =
    let index = c.entries.one-index in
    let said = c.args.said.now in
    let one = c.one-item.result in
    let earlier = map entry_reading_of (take index said) in
    let next : map entry_reading_of (take (index + 1) said) ≡ earlier ++ entry_reading_of one ∷ [] =
    map_more entry_reading_of said index one c.entries-test.true ∙ ap (λ e. earlier ++ entry_reading_of e ∷ []) (sym c.one-item.is) in
    subst (AreEntriesByStart c.if-not-contains_key.entries) (sym next)
    (elim c.if-not-contains_key.branch [
      | then-not-contains_key+in_ok-insert w ↦
          subst (λ m. AreEntriesByStart m (earlier ++ entry_reading_of one ∷ [])) (sym w.entries-is)
          (starts_more c.entries.entries w.insert.new.self earlier (entry_reading_of one) _ c.entries.invariant
          (sym c.contains_key.ensures ∙ w.if-not-contains_key.true) refl w.in_ok-insert.ensures.updates)
      | else-not-contains_key w ↦
          subst (λ m. AreEntriesByStart m (earlier ++ entry_reading_of one ∷ [])) (sym w.entries-is)
          (starts_same c.entries.entries earlier (entry_reading_of one) c.entries.invariant
          (sym c.contains_key.ensures ∙ w.if-not-contains_key.false))
    ])
