use Rattle.std.proofs.Common.{◌≡◌, [], ◌∷◌, ◌++◌, ◌+◌, map, take, sym, ap, ◌∙◌, append_assoc, append-nil}
use Rattle.std.proofs.lemmas.Grind.{flat_map-append}
use Rattle.bib_syntax.specs.Views.{entry_reading_of}
use Rattle.bib_findings.specs.Duplicates.{entries_at}
use Rattle.bib_findings.specs.Comments.{comment_findings, comment_of}
use Rattle.bib_findings.proofs.SeenFacts.{entries_next}
use Rattle.bib_findings.proofs.comments.add_comments.Goals as goal

pub origins-preserved : goal.origins-preserved
origins-preserved c =
    let said = map entry_reading_of c.args.said.now in
    let index = c.origins.index-index in
    let origins = c.args.origins.now in
    let earlier = entries_at said (take index origins) in
    let one = entry_reading_of c.index-said-index.result in
    let text = c.args.text.now in
    let next : entries_at said (take (index + 1) origins) ≡ earlier ++ one ∷ [] =
    entries_next c.args.said.now origins index c.index-said-index.result c.requires c.origins-test.true c.index-said-index.is in
    c.in_ok-add_comment.ensures
    ∙ ap (λ l. l ++ comment_of text one) c.origins.invariant
    ∙ append_assoc c.args.found.now.items (comment_findings text earlier) (comment_of text one)
    ∙ ap (λ l. c.args.found.now.items ++ (comment_findings text earlier ++ l)) (sym (append-nil (comment_of text one)))
    ∙ ap (λ l. c.args.found.now.items ++ l) (sym (flat_map-append (comment_of text) earlier (one ∷ [])))
    ∙ ap (λ l. c.args.found.now.items ++ comment_findings text l) (sym next)
