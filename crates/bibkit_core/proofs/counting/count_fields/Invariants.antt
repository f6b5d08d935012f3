use Rattle.std.proofs.Common.{map, take}
use Rattle.bib_syntax.specs.Views.{field_of}
use Rattle.bibkit_core.specs.Stats.{lowercase_names}
use Rattle.bibkit_core.specs.Totals.{AddsNames}
use Rattle.bibkit_core.proofs.counting.count_fields.Given as goal

abbrev pub invariant-fields : goal.invariant-fields
invariant-fields l = AddsNames (lowercase_names (map field_of (take l.field-index l.fields))) l.initial.counts l.counts
