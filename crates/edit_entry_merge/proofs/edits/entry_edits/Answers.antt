use Rattle.std.proofs.Common.{◌≡◌, ◌++◌, ◌∷◌, ◌∙◌, ◌+◌, ◌-◌, ◌<◌, ℕ, List, ap, append_assoc, arith, drop, length, map, subst, sym, true, false}
use Rattle.std.specs.List.{AllByRecursion, list_any}
use Rattle.std.proofs.lemmas.List.{length-map}
use Rattle.bib_text.proofs.ListFacts.{drop_is, take_to_end}
use Rattle.bib_syntax.specs.Reading.{FieldReading}
use Rattle.bib_syntax.specs.Views.{field_of}
use Rattle.edit_entries.specs.Changes.{edits_of_field, edits_of_fields}
use Rattle.edit_entries.specs.EditList.{edit_of}
use Rattle.edit_entries.specs.Edits.{Edit}
use Rattle.edit_entry_merge.specs.Mixed.{mixed_field_changes, picked_change}
use Rattle.edit_entry_merge.specs.Picks.{FieldPick, is_staying}
use Rattle.edit_entry_merge.specs.Working.{AreEditable, IsPickPlaced, added_fields, count_to_last, pick_of}
use Rattle.edit_entry_merge.proofs.CountFacts.{count_rest, count_within, none_stays, one_stays, some_count}
use Rattle.edit_entry_merge.proofs.EditsFacts.{drop_some, editable_rest, last_step, own_step}
use Rattle.edit_entry_merge.proofs.edits.entry_edits.Goals as goal

pub overflow_sub-last : goal.overflow_sub-last
overflow_sub-last c = omega (arith, c.count_to_last-last.ensures, some_count (map pick_of c.args.picks.now) c.requires.stays)

pub fields-init : goal.fields-init
fields-init c =
    let fs : List FieldReading = map field_of c.args.texts.fields.now in
    let ps : List FieldPick = map pick_of c.args.picks.now in
    let main = c.args.texts.main.now in
    record {
      added =
          ap
          (λ l.
          map edit_of l
          ++ edits_of_fields main fs (mixed_field_changes main c.args.texts.other.now fs (added_fields c.args.added.now) ps fs))
          c.new-edits.ensures.items;
      left = omega (arith, c.count_to_last-last.ensures, some_count ps c.requires.stays);
      fields = c.requires.fields;
      picks = c.requires.picks;
    }

pub fields-preserved : goal.fields-preserved
fields-preserved c =
    let main = c.args.texts.main.now in
    let other = c.args.texts.other.now in
    let xs = c.args.texts.fields.now in
    let ys = c.args.picks.now in
    let i : ℕ = c.fields.index in
    let x = c.index-fields-index.result in
    let y = c.index-picks-index.result in
    let all : List FieldReading = map field_of xs in
    let added : List FieldReading = added_fields c.args.added.now in
    let f : FieldReading = field_of x in
    let p : FieldPick = pick_of y in
    let fs : List FieldReading = map field_of (drop (i + 1) xs) in
    let ps : List FieldPick = map pick_of (drop (i + 1) ys) in
    let within : i < length ys =
    omega (
      arith,
      c.fields-test.true,
      c.count_to_last-last.ensures,
      count_within (map pick_of ys),
      length-map ys pick_of,
    ) in
    let fields : map field_of (drop i xs) ≡ f ∷ fs =
    ap (map field_of) (drop_is xs i x (omega (arith, within, c.requires.count)) c.index-fields-index.is) in
    let picks : map pick_of (drop i ys) ≡ p ∷ ps = ap (map pick_of) (drop_is ys i y within c.index-picks-index.is) in
    let left : i + count_to_last (p ∷ ps) ≡ c.count_to_last-last.result - 1 + 1 =
    ap (λ l. i + count_to_last l) (sym picks) ∙ c.fields.invariant.left in
    let rest = count_rest p ps (omega (arith, left, c.fields-test.true)) in
    let stays : list_any is_staying ps ≡ true = one_stays ps (omega (arith, left, rest, c.fields-test.true)) in
    let now : List Edit = map edit_of c.push_own.new.edits.items in
    let later : List Edit = edits_of_fields main fs (mixed_field_changes main other all added ps fs) in
    let own : map edit_of c.push_own.new.edits.items
    ≡ map edit_of c.fields.edits.items ++ edits_of_field main f fs (picked_change other p) =
    c.in_ok-push_own.ensures
    ∙ ap (λ l. map edit_of c.fields.edits.items ++ edits_of_field main f (map field_of l) (picked_change other p))
    (take_to_end xs (i + 1)) in
    record {
      added =
          ap (λ l. l ++ later) own
          ∙ append_assoc (map edit_of c.fields.edits.items) (edits_of_field main f fs (picked_change other p)) later
          ∙ ap (λ l. map edit_of c.fields.edits.items ++ l) (sym (own_step main other all added p ps f fs stays))
          ∙ ap (λ l. map edit_of c.fields.edits.items
          ++ edits_of_fields main l (mixed_field_changes main other all added (p ∷ ps) l)) (sym fields)
          ∙ ap
          (λ l.
          map edit_of c.fields.edits.items
          ++ edits_of_fields main (map field_of (drop i xs)) (mixed_field_changes main other all added l (map field_of (drop i xs))))
          (sym picks)
          ∙ c.fields.invariant.added;
      left = omega (arith, left, rest);
      fields = editable_rest main f fs (subst (AreEditable main) fields c.fields.invariant.fields);
      picks = (subst (AllByRecursion (IsPickPlaced other)) picks c.fields.invariant.picks).1;
    }

pub returns : goal.returns
returns c =
    let main = c.args.texts.main.now in
    let other = c.args.texts.other.now in
    let xs = c.args.texts.fields.now in
    let ys = c.args.picks.now in
    let last : ℕ = c.count_to_last-last.result - 1 in
    let i : ℕ = c.fields.index in
    let at : i ≡ last = omega (arith, c.fields-test.false, c.fields.auto.index-end) in
    let y = c.index-picks-last.result in
    let all : List FieldReading = map field_of xs in
    let added : List FieldReading = added_fields c.args.added.now in
    let within : last < length ys =
    omega (
      arith,
      c.count_to_last-last.ensures,
      count_within (map pick_of ys),
      length-map ys pick_of,
      some_count (map pick_of ys) c.requires.stays,
    ) in
    let cut = drop_some xs last (omega (arith, within, c.requires.count)) in
    let f : FieldReading = field_of cut.0 in
    let p : FieldPick = pick_of y in
    let fs : List FieldReading = map field_of (drop (last + 1) xs) in
    let ps : List FieldPick = map pick_of (drop (last + 1) ys) in
    let fields : map field_of (drop last xs) ≡ f ∷ fs = ap (map field_of) cut.1 in
    let picks : map pick_of (drop last ys) ≡ p ∷ ps = ap (map pick_of) (drop_is ys last y within c.index-picks-last.is) in
    let left : last + count_to_last (p ∷ ps) ≡ last + 1 =
    ap (λ l. last + count_to_last l) (sym picks) ∙ ap (λ n. n + count_to_last (map pick_of (drop n ys))) (sym at)
    ∙ c.fields.invariant.left in
    let none : list_any is_staying ps ≡ false =
    none_stays ps (omega (arith, left, count_rest p ps (omega (arith, left)))) in
    c.in_ok-push_last.ensures f fs (ap (map field_of) (take_to_end xs last) ∙ fields)
    ∙ ap (λ l. map edit_of c.fields.edits.items ++ edits_of_fields main (f ∷ fs) l) (sym (last_step main other all added p ps f fs none))
    ∙ ap (λ l. map edit_of c.fields.edits.items ++ edits_of_fields main l (mixed_field_changes main other all added (p ∷ ps) l))
    (sym fields)
    ∙ ap
    (λ l.
    map edit_of c.fields.edits.items
    ++ edits_of_fields main (map field_of (drop last xs)) (mixed_field_changes main other all added l (map field_of (drop last xs))))
    (sym picks)
    ∙ ap
    (λ n.
    map edit_of c.fields.edits.items
    ++ edits_of_fields main (map field_of (drop n xs))
    (mixed_field_changes main other all added (map pick_of (drop n ys)) (map field_of (drop n xs))))
    (sym at)
    ∙ c.fields.invariant.added
