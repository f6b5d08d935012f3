use Rattle.std.proofs.Common.{◌+◌, ◌-◌, List, ◌++◌, append-nil, length, drop, take, map, sym, ap, ◌∙◌, arith}
use Rattle.std.proofs.lemmas.List.{drop_all, length-drop, take_all}
use Rattle.bib_syntax.specs.declared.raw.Pair.{Pair}
use Rattle.bib_syntax.specs.Views.{field_of}
use Rattle.edit_entries.specs.Edits.{Edit}
use Rattle.edit_entries.specs.EditList.{edit_of}
use Rattle.edit_convert.specs.Tables.{change_edits, replacement_by, lent_text}
use Rattle.edit_convert.proofs.FollowingFacts.{edits_step, in_text_after, in_text_here}
use Rattle.edit_convert.proofs.converting.push_field_edits.Goals as goal

pub push_pending_edit-requires : goal.push_pending_edit-requires
push_pending_edit-requires c =
    let here = in_text_here field_of c.args.text.now c.args.fields.now c.fields.index c.index-fields-index.result c.fields-test.true
    c.index-fields-index.is c.fields.invariant.placed in
    record { name = here.0; value = here.1; sign = here.2; signs = c.requires.signs }

pub fields-preserved : goal.fields-preserved
fields-preserved c =
    let left : List Pair = drop (c.fields.index + 1) c.args.fields.now in
    let following : List Pair = take (length c.args.fields.now - (c.fields.index + 1)) left in
    let same =
    take_all (length c.args.fields.now - (c.fields.index + 1)) left
    (omega (arith, length-drop (c.fields.index + 1) c.args.fields.now)) in
    record {
      added =
          edits_step field_of c.args.fields.now c.fields.index c.index-fields-index.result c.fields-test.true
          c.index-fields-index.is (replacement_by c.args.changes.now) (lent_text c.fields.pending) _ c.args.text.now
          (map field_of c.args.fields.now) following _
          _ _ same c.in_ok-pending.ensures.edits c.in_ok-pending.ensures.left c.fields.invariant.added;
      placed =
          in_text_after field_of c.args.text.now c.args.fields.now c.fields.index c.index-fields-index.result c.fields-test.true
          c.index-fields-index.is c.fields.invariant.placed;
    }

pub returns : goal.returns
returns c =
    let edits : List Edit = map edit_of c.fields.edits.items in
    sym (append-nil edits)
    ∙ ap
    (λ fs.
    edits
    ++ change_edits c.args.changes.now c.args.text.now (map field_of c.args.fields.now) (lent_text c.fields.pending) (map field_of fs))
    (sym (drop_all c.fields.index c.args.fields.now c.fields-test.false)) ∙ c.fields.invariant.added
