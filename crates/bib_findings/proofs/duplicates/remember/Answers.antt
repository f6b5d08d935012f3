use Rattle.std.proofs.Common.{[], ◌∷◌, map, ap, sym, ◌∙◌}
use Rattle.std.specs.BTreeMap.{get_by_text}
use Rattle.std.specs.String.{string_bytes}
use Rattle.std.proofs.lemmas.List.{map-append}
use Rattle.bib_findings.specs.Seen.{remembered, stored_indices}
use Rattle.bib_findings.proofs.SeenFacts.{remembered_both}
use Rattle.bib_findings.proofs.duplicates.remember.Goals as goal

pub identities-preserved : goal.identities-preserved
identities-preserved c = λ id.
    let had = stored_indices (get_by_text c.args.seen.now id) in
    let one = string_bytes c.in-Some.identity ∷ [] in
    c.in_ok-store.ensures id ∙ ap (remembered one c.args.index id) (c.identities.invariant id)
    ∙ sym
    (ap (λ ids. remembered ids c.args.index id had) (map-append string_bytes c.identities.yielded (c.in-Some.identity ∷ []))
    ∙ remembered_both (map string_bytes c.identities.yielded) one c.args.index id had)
