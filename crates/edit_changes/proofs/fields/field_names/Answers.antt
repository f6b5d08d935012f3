use Rattle.std.proofs.Common.{◌≡◌, ◌+◌, ◌∷◌, ◌++◌, [], codes, drop, map, take, unwrap_or, sym, ap, ◌∙◌, subst}
use Rattle.std.specs.FinMap.{get, insert}
use Rattle.std.specs.Fmt.{decimal}
use Rattle.bib_syntax.specs.Views.{field_of}
use Rattle.edit_versions.specs.Versions.{unique_names}
use Rattle.edit_versions.proofs.NameFacts.{AreCounts, counts_more, counts_none, names_more}
use Rattle.edit_changes.specs.Fields.{field_names}
use Rattle.edit_changes.proofs.FieldFacts.{lower_name, lower_names, lower_names_from, lower_names_more}
use Rattle.edit_changes.proofs.fields.field_names.Goals as goal

pub fields-init : goal.fields-init
fields-init c = record {
  counted = counts_none c.new-counts.result c.new-counts.ensures;
  named = ap (λ l. l ++ unique_names [] (lower_names c.args.fields.now)) c.new-names.ensures.items;
}

pub fields-preserved : goal.fields-preserved
fields-preserved c =
    let fields = c.args.fields.now in
    let index = c.fields.field-index in
    let f = c.field-item.result in
    let own = lower_name (field_of f) in
    let number = c.unwrap_or-number.result in
    let earlier = lower_names (take index fields) in
    let later = lower_names (drop (index + 1) fields) in
    let number_is : number ≡ unwrap_or (get c.fields.counts own) 0 =
    c.unwrap_or-number.ensures ∙ ap (λ o. unwrap_or o 0) c.get.ensures
    ∙ ap (λ n. unwrap_or (get c.fields.counts n) 0) (c.as_str.ensures ∙ c.in_ok-own.ensures) in
    let pushed : c.push.new.self.items ≡ c.fields.names.items ++ (decimal number ++ (codes " " ++ own)) ∷ [] =
    c.in_ok-push.ensures.items
    ∙ ap (λ n. c.fields.names.items ++ n ∷ [])
    (c.in_ok-with_number.ensures ∙ ap (λ n. decimal number ++ (codes " " ++ n)) c.in_ok-own.ensures) in
    let more = lower_names_more fields index f c.fields-test.true c.field-item.is in
    let whole = field_names (map field_of fields) in
    record {
      counted =
          subst (λ l. AreCounts l c.claim.new.self) (sym more)
          (counts_more earlier c.fields.counts c.claim.new.self own number c.fields.invariant.counted number_is
          (c.in_ok-claim.ensures.claimed ∙ ap (λ n. insert c.fields.counts n (number + 1)) c.in_ok-own.ensures));
      named =
          ap (λ l. l ++ unique_names (lower_names (take (index + 1) fields)) later) pushed
          ∙ ap (λ l. (c.fields.names.items ++ (decimal number ++ (codes " " ++ own)) ∷ []) ++ unique_names l later) more
          ∙ names_more earlier later c.fields.names.items whole c.fields.counts own number c.fields.invariant.counted number_is
          (ap (λ l. c.fields.names.items ++ unique_names earlier l)
          (sym (lower_names_from fields index f c.fields-test.true c.field-item.is))
          ∙ c.fields.invariant.named);
    }
