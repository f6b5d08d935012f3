use Rattle.std.proofs.Common.{◌≡◌, ◌∙◌, ap, arith, map, not, sym, true, false}
use Rattle.std.specs.Prelude.{◌&&◌, ◌||◌}
use Rattle.std.specs.List.{list_all, list_any}
use Rattle.bib_syntax.specs.Views.{field_of}
use Rattle.edit_entry_merge.specs.Mixed.{has_inner_comment, is_empty_list}
use Rattle.edit_entry_merge.specs.Picks.{is_staying}
use Rattle.edit_entry_merge.specs.Working.{added_fields, pick_of, version_reading}
use Rattle.edit_entry_merge.proofs.CountFacts.{none_is, none_stays, one_stays}
use Rattle.edit_entry_merge.proofs.edits.can_write.Goals as goal
use Rattle.edit_entry_merge.proofs.edits.can_write.Goals.{else-are_staying-via-then-are_staying+else-is_empty, else-are_staying-via-else-are_staying}

pub returns-then-count_to_last-eq0 : goal.returns-then-count_to_last-eq0
returns-then-count_to_last-eq0 c =
    let ps = map pick_of c.args.picks.now in
    let added = added_fields c.args.added.now in
    ap (λ b. b && ((list_all is_staying ps && is_empty_list added) || not (has_inner_comment (version_reading c.args.main.now))))
    (sym (none_stays ps (sym c.count_to_last.ensures ∙ c.if-count_to_last-eq0.true)))

pub returns-then-is_empty : goal.returns-then-is_empty
returns-then-is_empty c =
    let ps = map pick_of c.args.picks.now in
    let added = added_fields c.args.added.now in
    let comment = has_inner_comment (version_reading c.args.main.now) in
    let one : list_any is_staying ps ≡ true = one_stays ps (omega (arith, c.count_to_last.ensures, c.if-count_to_last-eq0.false)) in
    let none : is_empty_list added ≡ true =
    none_is (λ a. field_of a.field.now) c.args.added.now (sym c.is_empty.ensures ∙ c.if-is_empty.true) in
    sym
    (ap (λ b. b && ((list_all is_staying ps && is_empty_list added) || not comment)) one
    ∙ ap (λ b. (b && is_empty_list added) || not comment) (sym c.are_staying.ensures ∙ c.if-are_staying.true)
    ∙ ap (λ b. b || not comment) none)

pub returns : goal.returns
returns c =
    let ps = map pick_of c.args.picks.now in
    let added = added_fields c.args.added.now in
    let comment = has_inner_comment (version_reading c.args.main.now) in
    let one : list_any is_staying ps ≡ true = one_stays ps (omega (arith, c.count_to_last.ensures, c.if-count_to_last-eq0.false)) in
    let changes : (list_all is_staying ps && is_empty_list added) ≡ false =
    elim c.else-are_staying.branch [
      | else-are_staying-via-then-are_staying+else-is_empty w ↦
          ap (λ b. b && is_empty_list added) (sym c.are_staying.ensures ∙ w.if-are_staying.true)
          ∙ none_is (λ a. field_of a.field.now) c.args.added.now (sym w.is_empty.ensures ∙ w.if-is_empty.false)
      | else-are_staying-via-else-are_staying w ↦
          ap (λ b. b && is_empty_list added) (sym c.are_staying.ensures ∙ w.if-are_staying.false)
    ] in
    sym
    (ap (λ b. b && ((list_all is_staying ps && is_empty_list added) || not comment)) one ∙ ap (λ b. b || not comment) changes
    ∙ ap not (sym c.in_ok-has_inner_comment.ensures))
