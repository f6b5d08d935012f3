-- Meaning: words of public contracts.
-- Runs at the start of a list of characters.
use Rattle.std.specs.Prelude.{ℕ, Bool, List, [], ◌∷◌, if◌then◌else◌}

-- the longest run of characters at the start that pass `test`
abbrev pub leading_run : (ℕ → Bool) → List ℕ → List ℕ
leading_run test [] = []
leading_run test (c ∷ cs) = if test c then c ∷ leading_run test cs else []

-- the characters after the longest run at the start that pass `test`
abbrev pub rest_after : (ℕ → Bool) → List ℕ → List ℕ
rest_after test [] = []
rest_after test (c ∷ cs) = if test c then rest_after test cs else c ∷ cs
