use Rattle.std.proofs.Common.{◌≡◌, ◌<◌, ◌≤◌, ◌+◌, length, take, get_or, ap, refl, sym, ◌∙◌, subst}
use Rattle.std.specs.BTreeMap.{get_by_text}
use Rattle.bib_findings.specs.Counted.{CountsMore, HasIndices, counted_texts}
use Rattle.bib_findings.proofs.OnceFacts.{counted_entry, counted_next, counted_same, counts_none, once_of}
use Rattle.bib_findings.proofs.once.count_fields.Goals as goal
use Rattle.bib_findings.proofs.once.count_fields.Goals.{then-is_once+in_ok-count_part, else-is_once}

pub fields-init : goal.fields-init
fields-init c = record {
  met = c.requires.met;
  indices = c.requires.indices;
  counted = counts_none c.args.counted.now.items;
}

pub fields-preserved : goal.fields-preserved
fields-preserved c =
    let kind = c.args.said.now.v.kind.v.now in
    let fields = c.args.said.now.v.fields.items in
    let index = c.fields.field-index in
    let field = c.field-item.result in
    let old = c.args.counted.now.items in
    let all = c.deref-field-items.ensures.value in
    let within : index < length fields = subst (λ l. index < length l) all c.fields-test.true in
    let is : field ≡ get_or fields index field = c.field-item.is ∙ ap (λ l. get_or l index field) all in
    let once = c.in_ok-is_once.ensures.is kind (sym c.is_known_type-has_known_type.ensures) in
    elim c.if-is_once.branch [
      | then-is_once+in_ok-count_part w ↦
          record {
            met = c.in_ok-is_once.ensures.met;
            indices =
                subst (λ m. HasIndices (get_by_text m) (counted_texts c.if-is_once.counted.items)) (sym w.indices-is)
                (subst (λ v. HasIndices (get_by_text w.count_part.new.indices) (counted_texts v.items)) (sym w.counted-is)
                w.in_ok-count_part.ensures.indices);
            counted =
                subst (λ v. CountsMore (once_of kind (take (index + 1) fields)) old v.items) (sym w.counted-is)
                (counted_next kind fields index field old c.fields.counted.items w.count_part.new.counted.items within is
                (sym once ∙ w.if-is_once.true) c.fields.invariant.counted w.in_ok-count_part.ensures.counted);
          }
      | else-is_once w ↦
          record {
            met = c.in_ok-is_once.ensures.met;
            indices =
                subst (λ m. HasIndices (get_by_text m) (counted_texts c.if-is_once.counted.items)) (sym w.indices-is)
                (subst (λ v. HasIndices (get_by_text c.fields.indices) (counted_texts v.items)) (sym w.counted-is)
                c.fields.invariant.indices);
            counted =
                subst (λ v. CountsMore (once_of kind (take (index + 1) fields)) old v.items) (sym w.counted-is)
                (counted_same kind fields index field old c.fields.counted.items within is
                (sym once ∙ w.if-is_once.false) c.fields.invariant.counted);
          }
    ]

pub returns-clause-counted : goal.returns-clause-counted
returns-clause-counted c =
    let fields = c.args.said.now.v.fields.items in
    counted_entry c.args.said.now fields c.fields.field-index c.args.counted.now.items c.fields.counted.items refl
    (subst (λ l. length l ≤ c.fields.field-index) c.deref-field-items.ensures.value c.fields-test.false) c.fields.invariant.counted
