use Rattle.std.proofs.Common.{◌≡◌, [], ◌∷◌, ◌++◌, ◌+◌, map, take, ap, sym, subst, ◌∙◌}
use Rattle.std.specs.BTreeSet.{contains_text}
use Rattle.std.proofs.lemmas.List.{map_more}
use Rattle.bib_syntax.specs.Views.{field_of}
use Rattle.bib_findings.specs.UnusedDefinitions.{unused_after}
use Rattle.bib_findings.specs.UsedNames.{HasLowercaseNames, names_of_definitions}
use Rattle.bib_findings.proofs.AfterFacts.{appended_next}
use Rattle.bib_findings.proofs.unused_definitions.add_unused_among.Goals as goal

pub definitions-preserved : goal.definitions-preserved
definitions-preserved c = λ used has.
    let all = c.args.definitions.now in
    let index = c.definitions.definition-index in
    let one = c.definition-item.result in
    let earlier = map field_of (take index all) in
    let next : map field_of (take (index + 1) all) ≡ earlier ++ field_of one ∷ [] =
    map_more field_of all index one c.definitions-test.true ∙ ap (λ d. earlier ++ field_of d ∷ []) (sym c.definition-item.is) in
    let before = c.definitions.invariant used has in (
      subst (λ l. HasLowercaseNames (contains_text c.add_if_unused.new.set) (used ++ names_of_definitions l)) (sym next)
          (c.in_ok-add_if_unused.ensures.set used earlier before.0),
      appended_next (unused_after used) (map field_of (take (index + 1) all)) earlier (field_of one) c.args.found.now.items
          c.definitions.found.items c.add_if_unused.new.found.items next before.1
          (c.in_ok-add_if_unused.ensures.added used earlier before.0),
    )
