use Rattle.std.proofs.Common.{◌≡◌, [], ◌∷◌, ◌++◌, ◌+◌, ◌<◌, ◌≤◌, length, get_or, map, take, true, ap, sym, subst, ◌∙◌}
use Rattle.std.specs.BTreeSet.{contains_text}
use Rattle.std.specs.String.{string_bytes}
use Rattle.std.proofs.lemmas.List.{map_more, take_all}
use Rattle.std.proofs.lemmas.Map.Text.{btree_set_updates_text}
use Rattle.bib_syntax.specs.Views.{field_of}
use Rattle.bib_findings.specs.After.{each_after}
use Rattle.bib_findings.specs.Counted.{lowercase_name}
use Rattle.bib_findings.specs.Fields.{repeated_after}
use Rattle.bib_findings.proofs.RepeatedFacts.{AreSeen, repeated_next, seen_more}
use Rattle.bib_findings.proofs.fields.add_repeated_of_many.Goals as goal

pub fields-preserved : goal.fields-preserved
fields-preserved c =
    let fields = c.args.said.now.v.fields.items in
    let index = c.fields.field-index in
    let field = c.field-item.result in
    let all = c.deref-field-items.ensures.value in
    let within : index < length fields = subst (λ l. index < length l) all c.fields-test.true in
    let is : field ≡ get_or fields index field = c.field-item.is ∙ ap (λ l. get_or l index field) all in
    let next : map field_of (take (index + 1) fields) ≡ map field_of (take index fields) ++ field_of field ∷ [] =
    map_more field_of fields index field within ∙ ap (λ one. map field_of (take index fields) ++ field_of one ∷ []) (sym is) in
    let name = string_bytes c.in_ok-name.name in
    record {
      seen =
          subst (AreSeen (contains_text c.insert.new.self)) (sym next)
          (seen_more lowercase_name (contains_text c.fields.seen) (contains_text c.insert.new.self) (map field_of (take index fields))
          (field_of field) name c.in_ok-name.ensures.ok c.fields.invariant.seen
          (btree_set_updates_text name c.fields.seen c.insert.new.self true c.in_ok-is_new.ensures.updates));
      found =
          repeated_next c.args.said.now.v.key.v.now (map field_of (take (index + 1) fields)) (map field_of (take index fields))
          (field_of field) (contains_text c.fields.seen) name c.in_ok-is_new.is_new c.args.found.now.items c.fields.found.items
          c.add_unless_new.new.found.items next c.fields.invariant.seen c.in_ok-name.ensures.ok c.in_ok-is_new.ensures.added
          c.fields.invariant.found c.in_ok-add_unless_new.ensures;
    }

pub returns : goal.returns
returns c =
    c.fields.invariant.found
    ∙ ap (λ l. c.args.found.now.items ++ each_after (repeated_after c.args.said.now.v.key.v.now) [] (map field_of l))
    (take_all c.fields.field-index c.args.said.now.v.fields.items
    (subst (λ l. length l ≤ c.fields.field-index) c.deref-field-items.ensures.value c.fields-test.false))
