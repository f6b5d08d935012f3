use Rattle.std.proofs.Common.{◌≡◌, ◌+◌, ◌∷◌, [], get_or, cond, map, sym, ap, ◌∙◌, subst, Some}
use Rattle.std.proofs.lemmas.List.{map-append}
use Rattle.bib_syntax.specs.Views.{field_of, piece_of}
use Rattle.edit_entries.specs.Documents.{has_name}
use Rattle.edit_strings.specs.Expanded.{elements, index_before}
use Rattle.edit_strings.specs.Tables.{AreRows, lowercase_index_in, indexed_back, row_at, rows_of, with_index}
use Rattle.edit_strings.proofs.IndexFacts.{before_step}
use Rattle.edit_strings.proofs.WrittenFacts.{elements_of_pair, row_push}
use Rattle.edit_strings.proofs.written.rows.Goals as goal

pub definitions-preserved : goal.definitions-preserved
definitions-preserved c =
    let xs = c.args.definitions.now in
    let i = c.definitions.index in
    let definition = c.index-definitions-index.result in
    let earlier = lowercase_index_in c.definitions.indices in
    let before : earlier ≡ index_before (map field_of xs) i = λ k name. c.definitions.invariant.indices name k in
    record {
      indices = λ name.
          c.in_ok-add_definition.ensures name
          ∙ ap (cond (has_name name (field_of definition)) (Some i)) (c.definitions.invariant.indices name)
          ∙ sym (before_step xs i definition name c.definitions-test.true c.index-definitions-index.is);
      rows =
          let row = c.in_ok-with_indices.field-0 in
          let is : indexed_back row.items ≡ row_at (map field_of xs) i =
          c.in_ok-with_indices.ensures
          ∙ ap (λ l. map (with_index earlier) (map piece_of l)) c.deref.ensures.value
          ∙ ap (map (with_index earlier)) (sym (elements_of_pair xs i definition c.definitions-test.true c.index-definitions-index.is))
          ∙ ap (λ ix. map (with_index ix) (get_or (map elements (map field_of xs)) i [])) before in
          subst (AreRows (map field_of xs) (i + 1))
          (sym (ap rows_of c.in_ok-push.ensures.items ∙ map-append (λ r. indexed_back r.items) c.definitions.rows.items (row ∷ [])))
          (row_push (map field_of xs) i (rows_of c.definitions.rows.items) (indexed_back row.items) c.definitions.invariant.rows is);
    }
