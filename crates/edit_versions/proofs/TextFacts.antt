-- The texts of units at an index.
use Rattle.std.proofs.Common.{◌≡◌, ℕ, zero, suc, List, [], ◌∷◌, Option, Some, None, refl}
use Rattle.std.specs.Prelude.{option_map, slice_get}
use Rattle.edit_units.specs.Units.{UnitReading, texts_from}
use Rattle.edit_versions.specs.Versions.{VersionReading, text_of_unit, texts_at, version_unit}

texts_get : (text : List ℕ) (at : ℕ) (us : List UnitReading) (i : ℕ)
    → option_map (λ t. t.text) (slice_get (texts_from text at us) i) ≡ option_map (text_of_unit text) (slice_get us i)
texts_get text at [] zero = refl
texts_get text at [] (suc i) = refl
texts_get text at (u ∷ us) zero = refl
texts_get text at (u ∷ us) (suc i) = texts_get text u.end us i

-- the bytes of a unit are the text of its texts
pub text_there : (v : VersionReading) (index : Option ℕ)
    → option_map (λ t. t.text) (texts_at v index) ≡ option_map (text_of_unit v.text) (version_unit v index)
text_there v None = refl
text_there v (Some i) = texts_get v.text 0 v.units i
