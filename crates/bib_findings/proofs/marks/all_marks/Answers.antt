use Rattle.std.proofs.Common.{◌≡◌, ◌+◌, [], ◌∷◌, ◌++◌, ap, sym, ◌∙◌, map, take}
use Rattle.std.proofs.lemmas.List.{map-append}
use Rattle.bib_syntax.specs.Views.{entry_reading_of}
use Rattle.bib_findings.specs.Duplicates.{entries_at}
use Rattle.bib_findings.specs.Marks.{marks_of}
use Rattle.bib_findings.proofs.SeenFacts.{entries_next}
use Rattle.bib_findings.proofs.marks.all_marks.Goals as goal

pub origins-preserved : goal.origins-preserved
origins-preserved c =
    let said = map entry_reading_of c.args.said.now in
    let index = c.origins.index in
    let earlier = entries_at said (take index c.args.origins.now) in
    let one = entry_reading_of c.index-said-origins.result in
    let next : entries_at said (take (index + 1) c.args.origins.now) ≡ earlier ++ one ∷ [] =
    entries_next c.args.said.now c.args.origins.now index c.index-said-origins.result c.requires c.origins-test.true
    c.index-said-origins.is in
    c.in_ok-push.ensures.items ∙ ap (λ l. l ++ c.in_ok-marks_of.field-0 ∷ []) c.origins.invariant
    ∙ ap (λ m. map marks_of earlier ++ m ∷ []) c.in_ok-marks_of.ensures
    ∙ sym (ap (map marks_of) next ∙ map-append marks_of earlier (one ∷ []))
