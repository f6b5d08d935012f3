use Rattle.std.proofs.Common.{◌≡◌, drop, map}
use Rattle.std.specs.List.{list_any}
use Rattle.bib_syntax.specs.Views.{field_of}
use Rattle.edit_entries.specs.Setting.{is_defined_before}
use Rattle.edit_entries.proofs.field_value.is_defined_before.Given as goal

abbrev pub invariant-definitions : goal.invariant-definitions
invariant-definitions l =
    list_any (is_defined_before l.at l.name) (map field_of l.definitions)
    ≡ list_any (is_defined_before l.at l.name) (map field_of (drop l.definition-index l.definitions))
