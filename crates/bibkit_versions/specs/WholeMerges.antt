-- Meaning: words of public contracts.
-- Merged files that are the text of one side.
use Rattle.std.specs.Prelude.{◌≡◌, ℕ, Bool, false, List}

-- a merged text is this one, byte for byte, and has no conflict
pub record IsWholeMerge (whole text : List ℕ) (conflicts : Bool) : Type 0 where
  pub same : text ≡ whole
  pub clean : conflicts ≡ false
