use Rattle.std.proofs.Common.{◌≡◌, ◌++◌, map, take}
use Rattle.std.specs.List.{flat_map}
use Rattle.bib_syntax.specs.Views.{entry_reading_of, field_of}
use Rattle.edit_entries.specs.NewKeys.{name_for}
use Rattle.edit_strings.specs.Left.{left_at, left_name}
use Rattle.edit_strings.specs.Tables.{field_expanded, lowercase_index_in, rows_of}
use Rattle.edit_strings.specs.Views.{lent_left}
use Rattle.edit_strings.proofs.left_references.push_left_in.Given as goal

abbrev pub invariant-fields : goal.invariant-fields
invariant-fields l =
    lent_left l.left.items
    ≡ lent_left l.initial.left.items
    ++ flat_map
    (λ f.
    left_at (entry_reading_of l.entry) f
    (left_name (name_for l.known.names) f (field_expanded (rows_of l.known.rows.items) (lowercase_index_in l.indices) f)))
    (map field_of (take l.field-index l.field-items))
