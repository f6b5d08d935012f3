use Rattle.std.proofs.Common.{length, map, sym, subst}
use Rattle.std.specs.List.{AllByRecursion}
use Rattle.bib_syntax.specs.Views.{piece_of}
use Rattle.edit_strings.specs.Tables.{IsIndexBelow, lowercase_index_in}
use Rattle.edit_strings.proofs.WrittenFacts.{indexed_below}
use Rattle.edit_strings.proofs.left_references.field_text.Goals as goal

pub expanded-requires-clause-below : goal.expanded-requires-clause-below
expanded-requires-clause-below c =
    let rows = c.args.rows.now in
    subst (AllByRecursion (IsIndexBelow (length rows))) (sym c.in_ok-pieces.ensures)
    (indexed_below (length rows) (lowercase_index_in c.args.indices.now) c.requires.below (map piece_of c.deref.result.now))
