use Rattle.bib_syntax.specs.Views.{field_of}
use Rattle.edit_strings.specs.Tables.{IsExpansionCut, expansion_by, index_by_lowercase, rows_of, value_edits}
use Rattle.edit_strings.proofs.ListFacts.{all_step, flat_step}
use Rattle.edit_strings.proofs.expanding.push_expansions.Goals as goal

pub fields-preserved : goal.fields-preserved
fields-preserved c =
    let names = c.args.names.now in
    let text = names.text.now in
    let index = index_by_lowercase c.args.indices.now in
    let exchange = expansion_by text (rows_of names.rows.items) index in
    record {
      added =
          flat_step field_of c.args.fields.now c.fields.field-index c.field-item.result c.fields-test.true
          c.field-item.is (λ f. value_edits text f (exchange f)) _ _ _ c.in_ok-push_expansion.ensures
          c.fields.invariant.added;
      cut =
          (all_step field_of c.args.fields.now c.fields.field-index c.field-item.result c.fields-test.true
          c.field-item.is (IsExpansionCut text (rows_of names.rows.items) index) c.fields.invariant.cut).1;
    }
