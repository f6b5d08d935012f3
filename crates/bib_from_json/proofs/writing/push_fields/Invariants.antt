use Rattle.std.proofs.Common.{◌≡◌, ◌++◌, take}
use Rattle.std.specs.List.{flat_map}
use Rattle.bib_from_json.specs.WrittenSources.{field_source}
use Rattle.bib_from_json.proofs.writing.push_fields.Given as goal

abbrev pub invariant-fields : goal.invariant-fields
invariant-fields l = l.out ≡ l.initial.out ++ flat_map field_source (take l.field-index l.fields)
