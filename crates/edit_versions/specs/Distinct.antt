-- Meaning: words of public contracts.
-- Names of which no two are equal.
use Rattle.std.specs.Prelude.{◌≡◌, ℕ, List, [], ◌∷◌, ⊤}
use Rattle.std.specs.List.{AllByRecursion}

-- no two of these names are equal
abbrev pub AreAllDifferent : List (List ℕ) → Type 0
AreAllDifferent [] = ⊤
AreAllDifferent (name ∷ names) = AllByRecursion (λ other. name ≡ other → ⊥) names × AreAllDifferent names
