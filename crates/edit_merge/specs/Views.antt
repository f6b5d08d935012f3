-- Meaning: words of public contracts.
-- The values of the code as definitions.
use Rattle.std.specs.Prelude.{option_map}
use Rattle.std.specs.String.{string_bytes}
use Rattle.edit_merge.specs.Picked as picked
use Rattle.edit_merge.specs.Renames.{NewTexts}
use Rattle.edit_merge.specs.declared.picking.Versions.{Versions}
use Rattle.edit_merge.specs.declared.renames.RenamedTexts.{RenamedTexts}

-- the three versions of a merge
abbrev pub versions_of : Versions → picked.Versions
versions_of vs = record { base = vs.base.now; ours = vs.ours.now; theirs = vs.theirs.now }

-- the new texts of the versions
abbrev pub new_texts_of : RenamedTexts → NewTexts
new_texts_of t = record {
  base = option_map string_bytes t.base;
  ours = option_map string_bytes t.ours;
  theirs = option_map string_bytes t.theirs;
}
