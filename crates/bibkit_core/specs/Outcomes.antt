-- Meaning: words of public contracts.
-- The text that an output has taken at the end of a run. `Prints` says which texts a run may print, and with which status. The status
-- is `None` if more texts follow.
use Rattle.std.specs.Prelude.{◌≡◌, ℕ, ◌-◌, ◌<◌, ◌^◌, Bool, false, List, Option, Some}
use Rattle.std.specs.Io.KnownBytes.{Appends}

-- the output has taken a whole text that the run may print with this status
pub record HasPrinted {K : Type 0} (taken : K → Option (List ℕ)) (Prints : List ℕ → Option ℕ → Type 0) (old new : K)
    (status : ℕ) : Type 0 where
  pub text : List ℕ
  pub prints : Prints text (Some status)
  pub printed : Appends (taken old) (taken new) text

-- the output has taken a text, and then refused the next one; its count of refusals has grown, unless it is at its maximum
pub record IsRefusedAfter {K : Type 0} (taken : K → Option (List ℕ)) (refusals : K → ℕ)
    (hands_over : K → List ℕ → Bool → K → Type 0) (text : List ℕ) (old new : K) : Type 0 where
  pub between : K
  pub refused : List ℕ
  pub printed : Appends (taken old) (taken between) text
  pub same : refusals between ≡ refusals old
  pub handed : hands_over between refused false new
  pub counted : refusals between < 2 ^ 64 - 1 → refusals between < refusals new
