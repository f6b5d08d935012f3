-- Meaning: words of public contracts.
-- Merges that give a known text.
use Rattle.std.specs.Prelude.{◌≡◌, ℕ, List}
use Rattle.edit_merge.specs.Clean.{IsClean, IsPicked}
use Rattle.edit_entry_merge.specs.ConflictTexts.{MarkerLines}
use Rattle.edit_merge.specs.Merged.{merged_text}
use Rattle.edit_merge.specs.Lost.{kept_slots}
use Rattle.edit_merge.specs.Picked.{Versions, order_choice}

-- a merge is this text, without a conflict. So it loses no name
pub record IsMerge (markers : MarkerLines) (vs : Versions) (text : List ℕ) : Type 0 where
  pub text_is : merged_text markers vs (kept_slots vs vs) ≡ text
  pub clean : IsClean (kept_slots vs vs)
  pub ordered : IsPicked (order_choice vs)
