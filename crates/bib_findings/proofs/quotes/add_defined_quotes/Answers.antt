use Rattle.std.proofs.Common.{◌≡◌, [], ◌∷◌, ◌++◌, ◌+◌, map, take, sym, ap, ◌∙◌, append_assoc, append-nil}
use Rattle.std.proofs.lemmas.Grind.{flat_map-append}
use Rattle.std.proofs.lemmas.List.{map_more}
use Rattle.bib_syntax.specs.Views.{field_of}
use Rattle.bib_findings.specs.Quotes.{defined_quote, defined_quotes}
use Rattle.bib_findings.proofs.quotes.add_defined_quotes.Goals as goal

pub definitions-preserved : goal.definitions-preserved
definitions-preserved c =
    let all = c.args.definitions.now in
    let index = c.definitions.definition-index in
    let one = c.definition-item.result in
    let text = c.args.text.now in
    let earlier = map field_of (take index all) in
    let more = defined_quote text (field_of one) in
    let next : map field_of (take (index + 1) all) ≡ earlier ++ field_of one ∷ [] =
    map_more field_of all index one c.definitions-test.true ∙ ap (λ d. earlier ++ field_of d ∷ []) (sym c.definition-item.is) in
    c.in_ok-add_definition.ensures
    ∙ ap (λ l. l ++ more) c.definitions.invariant
    ∙ append_assoc c.args.found.now.items (defined_quotes text earlier) more
    ∙ ap (λ l. c.args.found.now.items ++ (defined_quotes text earlier ++ l)) (sym (append-nil more))
    ∙ ap (λ l. c.args.found.now.items ++ l) (sym (flat_map-append (defined_quote text) earlier (field_of one ∷ [])))
    ∙ ap (λ l. c.args.found.now.items ++ defined_quotes text l) (sym next)
