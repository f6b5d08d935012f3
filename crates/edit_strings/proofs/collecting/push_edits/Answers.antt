use Rattle.bib_syntax.specs.Views.{field_of}
use Rattle.edit_strings.specs.Collecting.{collection_by, string_texts}
use Rattle.edit_strings.specs.Views.{lent_texts}
use Rattle.edit_strings.specs.Tables.{value_edits, IsFieldCut, index_in}
use Rattle.edit_strings.proofs.ListFacts.{all_step, flat_step}
use Rattle.edit_strings.proofs.collecting.push_edits.Goals as goal

pub fields-preserved : goal.fields-preserved
fields-preserved c =
    let text = c.args.text.now in
    let exchange =
    collection_by (lent_texts c.args.fields.now) (index_in c.args.collection.now.indices)
    (string_texts c.args.collection.now.names.items) in
    record {
      added =
          flat_step field_of c.args.among.now c.fields.field-index c.field-item.result c.fields-test.true
          c.field-item.is (λ f. value_edits text f (exchange f)) _ _ _ c.in_ok-push_edit.ensures
          c.fields.invariant.added;
      cut =
          (all_step field_of c.args.among.now c.fields.field-index c.field-item.result c.fields-test.true
          c.field-item.is (IsFieldCut text) c.fields.invariant.cut).1;
    }
