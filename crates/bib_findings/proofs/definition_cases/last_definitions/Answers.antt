use Rattle.std.proofs.Common.{◌≡◌, [], ◌∷◌, ◌++◌, ◌+◌, map, take, ap, sym, subst, ◌∙◌}
use Rattle.std.specs.BTreeMap.{get_by_text}
use Rattle.std.proofs.lemmas.List.{map_more}
use Rattle.bib_syntax.specs.Views.{field_of}
use Rattle.bib_findings.specs.LastDefinitions.{AreLastDefinitions}
use Rattle.bib_findings.proofs.definition_cases.last_definitions.Goals as goal

pub definitions-preserved : goal.definitions-preserved
definitions-preserved c =
    let all = c.args.definitions.now in
    let index = c.definitions.definition-index in
    let one = c.definition-item.result in
    let earlier = map field_of (take index all) in
    let next : map field_of (take (index + 1) all) ≡ earlier ++ field_of one ∷ [] =
    map_more field_of all index one c.definitions-test.true ∙ ap (λ d. earlier ++ field_of d ∷ []) (sym c.definition-item.is) in
    subst (AreLastDefinitions (get_by_text c.store_last.new.lasts)) (sym next)
    (c.in_ok-store_last.ensures earlier c.definitions.invariant)
