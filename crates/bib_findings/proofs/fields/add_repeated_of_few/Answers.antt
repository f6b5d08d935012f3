use Rattle.std.proofs.Common.{◌≡◌, [], ◌∷◌, ◌++◌, ◌+◌, ◌<◌, length, get_or, map, not, take, ap, sym, subst, ◌∙◌}
use Rattle.std.specs.List.{list_any}
use Rattle.std.proofs.lemmas.List.{map_more}
use Rattle.bib_syntax.specs.Views.{field_of}
use Rattle.bib_findings.specs.Entries.{have_one_name}
use Rattle.bib_findings.proofs.RepeatedFacts.{given_next}
use Rattle.bib_findings.proofs.fields.add_repeated_of_few.Goals as goal

pub fields-preserved : goal.fields-preserved
fields-preserved c =
    let fields = c.args.said.now.v.fields.items in
    let index = c.fields.index in
    let field = c.index-fields-index.result in
    let all = c.as_slice-fields.ensures.value in
    let within : index < length fields = subst (λ l. index < length l) all c.fields-test.true in
    let is : field ≡ get_or fields index field = c.index-fields-index.is ∙ ap (λ l. get_or l index field) all in
    let next : map field_of (take (index + 1) fields) ≡ map field_of (take index fields) ++ field_of field ∷ [] =
    map_more field_of fields index field within ∙ ap (λ one. map field_of (take index fields) ++ field_of one ∷ []) (sym is) in
    given_next c.args.said.now.v.key.v.now (map field_of (take (index + 1) fields)) (map field_of (take index fields)) (field_of field)
    (not c.have_name_of-is_new.result) c.args.found.now.items c.fields.found.items c.add_unless_new.new.found.items next
    (ap not
    (c.have_name_of-is_new.ensures ∙ ap (λ l. list_any (have_one_name (field_of field)) (map field_of (take index l))) all))
    c.fields.invariant c.in_ok-add_unless_new.ensures
