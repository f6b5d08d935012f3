use Rattle.std.proofs.Common.{◌≡◌, ◌<◌, ◌∙◌, ℕ, ap, arith, get_or, length, length-set, map, set, subst, sym}
use Rattle.std.specs.List.{All}
use Rattle.std.proofs.lemmas.List.{get_or_default, length-map}
use Rattle.bib_syntax.specs.Views.{entry_reading_of}
use Rattle.edit_resolve.specs.Parents.{entry_at, parents}
use Rattle.edit_resolve.specs.Working.{fields_at, named_of, readings, with_inherited}
use Rattle.edit_resolve.specs.declared.parents.Parent.{Parent}
use Rattle.edit_resolve.proofs.AlongFacts.{IsAlongTo, along_all, along_more, row_found, row_kept, row_set, rows_count, turn_within}
use Rattle.edit_resolve.proofs.ParentFacts.{parents_within}
use Rattle.edit_resolve.proofs.turns.fields_in_order.Goals as goal

pub order-init : goal.order-init
order-init c = record { count = c.in_ok-fields.ensures; along = λ i most none some. absurd (omega (arith, none.1)) }

pub parents_at-requires : goal.parents_at-requires
parents_at-requires c =
    let es = readings c.args.file.now in
    omega (
      arith,
      turn_within es c.args.order.now c.requires.order c.order.index-index c.order-test.true,
      rows_count es c.args.parents.now c.requires.parents,
    )

pub with_inherited-requires-clause-index : goal.with_inherited-requires-clause-index
with_inherited-requires-clause-index c =
    let es = readings c.args.file.now in
    omega (
      arith,
      turn_within es c.args.order.now c.requires.order c.order.index-index c.order-test.true,
      length-map c.args.file.now.entries.now entry_reading_of,
    )

pub with_inherited-requires-clause-within : goal.with_inherited-requires-clause-within
with_inherited-requires-clause-within c =
    let es = readings c.args.file.now in
    let i : ℕ = get_or c.args.order.now c.order.index-index 0 in
    let within = turn_within es c.args.order.now c.requires.order c.order.index-index c.order-test.true in
    let row : c.parents_at.result.now ≡ parents es (entry_at es i) =
    c.parents_at.ensures ∙ row_found es c.args.parents.now i c.requires.parents within in
    let count : length c.deref.result.now ≡ length es =
    ap length c.deref.ensures.value ∙ c.order.invariant.count ∙ sym (length-map c.args.file.now.entries.now entry_reading_of) in
    subst (λ n. All (λ (p : Parent). p.index < n) c.parents_at.result.now) (sym count)
    (subst (λ l. All (λ (p : Parent). p.index < length es) l) (sym row) (parents_within es (entry_at es i)))

pub index_mut-requires : goal.index_mut-requires
index_mut-requires c =
    let es = readings c.args.file.now in
    omega (
      arith,
      turn_within es c.args.order.now c.requires.order c.order.index-index c.order-test.true,
      c.order.invariant.count,
      length-map c.args.file.now.entries.now entry_reading_of,
    )

pub order-preserved : goal.order-preserved
order-preserved c =
    let es = readings c.args.file.now in
    let k : ℕ = c.order.index-index in
    let i : ℕ = get_or c.args.order.now k 0 in
    let found = c.order.fields.items in
    let row = c.in_ok-fields-2.field-0 in
    let within = turn_within es c.args.order.now c.requires.order k c.order-test.true in
    let below : i < length found =
    omega (arith, within, c.order.invariant.count, length-map c.args.file.now.entries.now entry_reading_of) in
    let parents_are : c.parents_at.result.now ≡ parents es (entry_at es i) =
    c.parents_at.ensures ∙ row_found es c.args.parents.now i c.requires.parents within in
    let new : map named_of row.items ≡ with_inherited es (fields_at found) (parents es (entry_at es i)) i =
    c.in_ok-fields-2.ensures
    ∙ ap (λ f. with_inherited es (fields_at f) c.parents_at.result.now i) c.deref.ensures.value
    ∙ ap (λ ps. with_inherited es (fields_at found) ps i) parents_are in
    record {
      count = length-set found i row ∙ c.order.invariant.count;
      along =
          along_more es c.args.order.now c.requires.order k i (fields_at found) (fields_at (set found i row)) c.order-test.true
          (get_or_default c.args.order.now k 0 i c.order-test.true) within c.order.invariant.along
          (row_set found i row below ∙ new) (λ j other. row_kept found i row j other);
    }

pub returns-clause-fields : goal.returns-clause-fields
returns-clause-fields c =
    let all : c.order.index-index ≡ length c.args.order.now = omega (arith, c.order.auto.index-index-end, c.order-test.false) in
    along_all (readings c.args.file.now) c.args.order.now c.requires.order (fields_at c.order.fields.items)
    (subst (λ n. IsAlongTo (readings c.args.file.now) c.args.order.now n (fields_at c.order.fields.items)) all c.order.invariant.along)
