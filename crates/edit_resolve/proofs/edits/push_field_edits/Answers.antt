use Rattle.std.proofs.Common.{◌≡◌, ◌++◌, ◌∙◌, ◌-◌, ◌+◌, ℕ, List, ap, arith, drop, length, map, sym, take, true, false, cond}
use Rattle.std.specs.Prelude.{count_by, ◌==◌}
use Rattle.std.proofs.lemmas.List.{length-drop, take_all}
use Rattle.bib_syntax.specs.Reading.{FieldReading}
use Rattle.bib_syntax.specs.Views.{field_of}
use Rattle.bib_syntax.specs.declared.raw.Pair.{Pair}
use Rattle.edit_entries.specs.Changes.{edits_of_field}
use Rattle.edit_entries.specs.EditList.{edit_of}
use Rattle.edit_entries.specs.Edits.{Edit}
use Rattle.edit_strings.proofs.ListFacts.{all_step}
use Rattle.edit_resolve.specs.Parents.{is_resolved}
use Rattle.edit_resolve.specs.Working.{IsNamedCut, instead_at, last_or_removed, named_of, readings}
use Rattle.edit_resolve.proofs.ChangeFacts.{change_is, count_step, edits_from, edits_step, own_is}
use Rattle.edit_resolve.proofs.edits.push_field_edits.Goals as goal
use Rattle.edit_resolve.proofs.edits.push_field_edits.Goals.{then-branch+in_ok-push_reference, else-branch+in_ok-push_own}

pub fields-preserved : goal.fields-preserved
fields-preserved c =
    let text = c.args.text.now in
    let resolved = is_resolved (readings c.args.file.now) in
    let instead = instead_at c.args.given.now in
    let new = map named_of c.args.new.now in
    let xs : List Pair = c.args.fields.now in
    let i : ℕ = c.fields.at in
    let x : Pair = c.index-fields-at.result in
    let f : FieldReading = field_of x in
    let past : List Pair = drop (i + 1) xs in
    let rest : List FieldReading = map field_of past in
    let old = map edit_of c.fields.edits.items in
    let count = c.fields.invariant.left ∙ count_step text resolved instead new field_of xs i x c.fields-test.true c.index-fields-at.is in
    let placed =
    (all_step field_of xs i x c.fields-test.true c.index-fields-at.is (IsNamedCut text) c.fields.invariant.placed).1 in
    let known = sym c.in_ok-is_resolved.ensures in
    let more : List Edit = edits_from text resolved instead new rest in
    let all : List Edit = map edit_of c.args.edits.now.items ++ edits_from text resolved instead new (map field_of xs) in
    elim c.if-branch.branch [
      | then-branch+in_ok-push_reference w ↦
          let following : List Pair = take (length xs - (i + 1)) past in
          let same : following ≡ past = take_all (length xs - (i + 1)) past (omega (arith, length-drop (i + 1) xs)) in
          let now : List Edit = map edit_of w.push_reference.new.edits.items in
          let is : resolved f ≡ true = known ∙ w.if-branch.true in
          let left : c.fields.left - 1 ≡ count_by resolved rest =
          omega (arith, count, ap (λ b. cond {A = ℕ} b 1 0) is) in
          record {
            added =
                ap (λ v. map edit_of v.items ++ more) w.edits-is
                ∙ edits_step text resolved instead new field_of xs i x c.fields-test.true c.index-fields-at.is old now all
                (w.in_ok-push_reference.ensures
                ∙ ap
                (λ l.
                old
                ++ edits_of_field text f (map field_of l) (last_or_removed text (c.fields.left - 1 == 0) new f (map field_of l))) same
                ∙ ap (λ ch. old ++ edits_of_field text f rest ch)
                (sym (change_is text resolved instead new f rest (c.fields.left - 1) is left)))
                c.fields.invariant.added;
            left = w.left-is ∙ left;
            placed = placed;
          }
      | else-branch+in_ok-push_own w ↦
          let now : List Edit = map edit_of w.push_own.new.edits.items in
          let is : resolved f ≡ false = known ∙ w.if-branch.false in
          record {
            added =
                ap (λ v. map edit_of v.items ++ more) w.edits-is
                ∙ edits_step text resolved instead new field_of xs i x c.fields-test.true c.index-fields-at.is old now all
                (w.in_ok-push_own.ensures rest
                ∙ ap (λ ch. old ++ edits_of_field text f rest ch) (own_is text resolved instead new f rest is)) c.fields.invariant.added;
            left = w.left-is ∙ omega (arith, count, ap (λ b. cond {A = ℕ} b 1 0) is);
            placed = placed;
          }
    ]
