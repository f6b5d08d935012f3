use Rattle.std.proofs.Common.{◌≡◌, drop, map}
use Rattle.std.specs.List.{list_any}
use Rattle.bib_syntax.specs.Views.{field_of}
use Rattle.edit_format.specs.Formatted.{has_unbalanced}
use Rattle.edit_format.proofs.comments.have_unbalanced.Given as goal

-- a field has an unbalanced literal exactly if one of those still to visit has
abbrev pub invariant-fields : goal.invariant-fields
invariant-fields l =
    list_any has_unbalanced (map field_of l.fields) ≡ list_any has_unbalanced (map field_of (drop l.field-index l.fields))
