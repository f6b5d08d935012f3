use Rattle.std.proofs.Common.{◌≡◌, drop}
use Rattle.bib_syntax.specs.Views.{field_of}
use Rattle.edit_format.specs.Unlisted.{has_one_of, name_texts}
use Rattle.edit_format.proofs.order.has_one_of.Given as goal

-- the field has one of the names exactly if it has one of those still to visit
abbrev pub invariant-names : goal.invariant-names
invariant-names l =
    has_one_of (name_texts (drop l.name-index l.names)) (field_of l.field)
    ≡ has_one_of (name_texts l.names) (field_of l.field)
