use Rattle.std.proofs.Common.{◌≡◌, ◌++◌, ◌∷◌, [], ◌∙◌, List, ap, map, subst, sym, take, ◌+◌}
use Rattle.std.specs.Prelude.{◌&&◌}
use Rattle.bib_text.proofs.ListFacts.{mapped_more}
use Rattle.bib_syntax.specs.Reading.{FieldReading}
use Rattle.bib_syntax.specs.Views.{field_of}
use Rattle.edit_entry_merge.specs.Versions.{have_distinct_names}
use Rattle.edit_entry_merge.specs.Working.{HasFirst}
use Rattle.edit_entry_merge.proofs.NameFacts.{distinct_next, first_more}
use Rattle.edit_entry_merge.proofs.versions.fields_by_name.Goals as goal
use Rattle.edit_entry_merge.proofs.versions.fields_by_name.Goals.{then-are_distinct, else-are_distinct}

pub fields-preserved : goal.fields-preserved
fields-preserved c =
    let i = c.fields.field-index in
    let xs = c.args.fields.now in
    let x = c.field-item.result in
    let before : List FieldReading = map field_of (take i xs) in
    let more : map field_of (take (i + 1) xs) ≡ before ++ field_of x ∷ [] =
    mapped_more field_of xs i x c.fields-test.true c.field-item.is in
    let next : (c.fields.are_distinct && c.in_ok-is_new.is_new) ≡ have_distinct_names (before ++ field_of x ∷ []) =
    distinct_next c.fields.names before (field_of x) c.fields.are_distinct c.in_ok-is_new.is_new c.fields.invariant.first
    c.fields.invariant.distinct c.in_ok-is_new.ensures.new in
    record {
      first =
          subst (HasFirst c.insert_field.new.fields) (sym more)
          (first_more c.fields.names c.insert_field.new.fields before (field_of x) c.fields.invariant.first c.in_ok-is_new.ensures.added);
      distinct =
          elim c.if-are_distinct.branch [
            | then-are_distinct w ↦
                w.are_distinct-is ∙ ap (λ b. b && c.in_ok-is_new.is_new) (sym w.if-are_distinct.true) ∙ next
                ∙ ap have_distinct_names (sym more)
            | else-are_distinct w ↦
                w.are_distinct-is ∙ w.if-are_distinct.false ∙ ap (λ b. b && c.in_ok-is_new.is_new) (sym w.if-are_distinct.false) ∙ next
                ∙ ap have_distinct_names (sym more)
          ];
    }
