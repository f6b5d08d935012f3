-- Meaning: words of public contracts.
-- Items of a list together with the items before them.
use Rattle.std.specs.Prelude.{List, [], ◌∷◌, ◌++◌}

-- the results of `f` for each item of a list, joined. The first argument of `f` is the items before the item: those of `earlier`, and then
-- those before it in the list
abbrev pub each_after : {A B : Type 0} → (List A → A → List B) → List A → List A → List B
each_after f earlier [] = []
each_after f earlier (item ∷ rest) = f earlier item ++ each_after f (earlier ++ item ∷ []) rest
