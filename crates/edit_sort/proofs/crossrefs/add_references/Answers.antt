use Rattle.std.proofs.Common.{map, take, refl, sym, ap, ◌∙◌, subst}
use Rattle.std.specs.Prelude.{◌&&◌, ◌||◌}
use Rattle.std.specs.List.{list_any}
use Rattle.std.proofs.Math.Bool.{or-false}
use Rattle.bib_collections.specs.Graph.{refs_of}
use Rattle.bib_collections.specs.Names.{AreIndicesBelow}
use Rattle.bib_collections.specs.Rows.{rows}
use Rattle.bib_syntax.specs.Views.{field_of}
use Rattle.edit_sort.specs.Ranks.{names_index}
use Rattle.edit_sort.proofs.SetFacts.{any_more, one_more_or}
use Rattle.edit_sort.proofs.crossrefs.add_references.Goals as goal

pub fields-init : goal.fields-init
fields-init c = record {
  same_length = refl;
  more = λ test index. sym (or-false (list_any test (refs_of (rows c.args.children.now.items) index)));
}

pub add_reference-requires : goal.add_reference-requires
add_reference-requires c = record {
  below = subst (λ n. AreIndicesBelow n c.args.names.now) (sym c.fields.invariant.same_length) c.requires.below;
}

pub fields-preserved : goal.fields-preserved
fields-preserved c = record {
  same_length = c.in_ok-add_reference.ensures.length ∙ c.fields.invariant.same_length;
  more = λ test index.
      let seen = list_any (names_index c.args.names.now index) (map field_of (take c.fields.field-index c.args.fields.now)) in
      let one = names_index c.args.names.now index (field_of c.field-item.result) in
      let old = list_any test (refs_of (rows c.args.children.now.items) index) in
      c.in_ok-add_reference.ensures.rows test index
      ∙ ap (λ b. b || (one && test c.args.child)) (c.fields.invariant.more test index)
      ∙ one_more_or old seen one (test c.args.child)
      ∙ ap (λ b. old || (b && test c.args.child))
      (sym
      (any_more (names_index c.args.names.now index) field_of c.args.fields.now c.fields.field-index c.field-item.result
      c.fields-test.true c.field-item.is));
}
