use Rattle.std.proofs.Common.{◌≡◌, ◌++◌, ℕ, List, map}
use Rattle.std.specs.Prelude.{zip}
use Rattle.std.specs.String.{string_bytes}
use Rattle.edit_merge.specs.Entries.{HasMergedUnits}
use Rattle.edit_merge.specs.Views.{versions_of}
use Rattle.edit_units.specs.Views.{unit_texts_of}
use Rattle.edit_versions.specs.Versions.{version_names, version_texts}
use Rattle.edit_merge.proofs.entries.with_merged_entries.Given as goal

-- the text so far and a text of the units that are left are a text of all units
abbrev pub invariant-units : goal.invariant-units
invariant-units l = record {
  ahead : (t : List ℕ)
      → HasMergedUnits l.side (versions_of l.versions) (zip l.name-iterator.a.rest.now (map unit_texts_of l.name-iterator.b.rest.now)) t
      → HasMergedUnits l.side (versions_of l.versions) (zip (version_names l.version) (version_texts l.version)) (string_bytes l.text ++ t);
}
