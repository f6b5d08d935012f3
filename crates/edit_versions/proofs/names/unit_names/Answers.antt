use Rattle.std.proofs.Common.{◌≡◌, ◌+◌, ◌∷◌, ◌++◌, [], codes, drop, map, take, unwrap_or, sym, ap, ◌∙◌, subst}
use Rattle.std.specs.FinMap.{get, insert}
use Rattle.std.specs.Fmt.{decimal}
use Rattle.std.specs.List.{AllByRecursion}
use Rattle.edit_versions.specs.Blocks.{IsUnitCut}
use Rattle.edit_units.specs.Views.{unit_reading_of}
use Rattle.bib_queries.proofs.EqualValueFacts.{from_index}
use Rattle.edit_versions.specs.Versions.{unique_names, own_name, unit_names}
use Rattle.edit_versions.proofs.NameFacts.{AreCounts, counts_more, counts_none, names_more, own_names, own_names_from, own_names_more}
use Rattle.edit_versions.proofs.names.unit_names.Goals as goal

pub units-init : goal.units-init
units-init c = record {
  cut = c.requires;
  counted = counts_none c.new-counts.result c.new-counts.ensures;
  named = ap (λ l. l ++ unique_names [] (own_names c.args.text.now c.args.units.now)) c.new-names.ensures.items;
}

pub units-preserved : goal.units-preserved
units-preserved c =
    let text = c.args.text.now in
    let units = c.args.units.now in
    let index = c.units.unit-index in
    let u = c.unit-item.result in
    let own = own_name text (unit_reading_of u) in
    let number = c.unwrap_or-number.result in
    let earlier = own_names text (take index units) in
    let later = own_names text (drop (index + 1) units) in
    let number_is : number ≡ unwrap_or (get c.units.counts own) 0 =
    c.unwrap_or-number.ensures ∙ ap (λ o. unwrap_or o 0) c.get.ensures
    ∙ ap (λ n. unwrap_or (get c.units.counts n) 0) (c.as_str.ensures ∙ c.in_ok-own.ensures) in
    let pushed : c.push.new.self.items ≡ c.units.names.items ++ (decimal number ++ (codes " " ++ own)) ∷ [] =
    c.in_ok-push.ensures.items
    ∙ ap (λ n. c.units.names.items ++ n ∷ [])
    (c.in_ok-with_number.ensures ∙ ap (λ n. decimal number ++ (codes " " ++ n)) c.in_ok-own.ensures) in
    let more = own_names_more text units index u c.units-test.true c.unit-item.is in
    let whole = unit_names text (map unit_reading_of units) in
    record {
      cut =
          (subst (λ l. AllByRecursion (IsUnitCut text) (map unit_reading_of l))
          (from_index units index u c.units-test.true ∙ ap (λ x. x ∷ drop (index + 1) units) (sym c.unit-item.is)) c.units.invariant.cut).1;
      counted =
          subst (λ l. AreCounts l c.claim.new.self) (sym more)
          (counts_more earlier c.units.counts c.claim.new.self own number c.units.invariant.counted number_is
          (c.in_ok-claim.ensures.claimed ∙ ap (λ n. insert c.units.counts n (number + 1)) c.in_ok-own.ensures));
      named =
          ap (λ l. l ++ unique_names (own_names text (take (index + 1) units)) later) pushed
          ∙ ap (λ l. (c.units.names.items ++ (decimal number ++ (codes " " ++ own)) ∷ []) ++ unique_names l later) more
          ∙ names_more earlier later c.units.names.items whole c.units.counts own number c.units.invariant.counted number_is
          (ap (λ l. c.units.names.items ++ unique_names earlier l)
          (sym (own_names_from text units index u c.units-test.true c.unit-item.is))
          ∙ c.units.invariant.named);
    }
