use Rattle.std.proofs.Common.{◌≡◌, ◌++◌, drop, map, take}
use Rattle.std.specs.List.{flat_map}
use Rattle.std.specs.String.{string_bytes}
use Rattle.bib_syntax.specs.Views.{field_of}
use Rattle.edit_format.specs.Formatted.{field_laid_out}
use Rattle.edit_format.specs.Ordered.{in_order}
use Rattle.edit_format.specs.Unlisted.{name_texts, unlisted}
use Rattle.edit_format.proofs.order.push_fields.Given as goal

-- the text so far, and that of the fields without the names so far in the order of the other names, are the whole text
abbrev pub invariant-names : goal.invariant-names
invariant-names l =
    string_bytes l.new
    ++ flat_map (field_laid_out l.layout.line_end.now l.layout.style l.layout.text.now l.width)
    (in_order (name_texts (drop l.index l.order))
    (unlisted (name_texts (take l.index l.order)) (map field_of l.fields)))
    ≡ string_bytes l.initial.new
    ++ flat_map (field_laid_out l.layout.line_end.now l.layout.style l.layout.text.now l.width)
    (in_order (name_texts l.order) (map field_of l.fields))
