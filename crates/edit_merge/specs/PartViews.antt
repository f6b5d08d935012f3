-- Machinery: words of private contracts.
-- The parts of a merge and the texts of units, from the values of the code.
use Rattle.std.specs.Prelude.{ℕ, List, [], ◌∷◌, Option, Some, None, option_map}
use Rattle.std.specs.Borrow.{Bor}
use Rattle.std.specs.String.{string_bytes}
use Rattle.edit_merge.specs.Merged.{MergedPart}
use Rattle.edit_merge.specs.declared.merging.Part.{Part}

-- a text, if it is there
abbrev pub optional_text : Option (Bor (List ℕ)) → Option (List ℕ)
optional_text found = option_map (λ text. text.now) found

-- a part
abbrev pub part_view : Part → MergedPart
part_view p = record { space = p.space.now; text = string_bytes p.text; is_text = p.is_text }

-- a part, if there is one, as a list
abbrev pub parts_view : Option Part → List MergedPart
parts_view None = []
parts_view (Some p) = part_view p ∷ []
