-- The pieces of an array, joined, are its text.
use Rattle.std.proofs.Common.{◌≡◌, ℕ, List, [], ◌∷◌, ◌++◌, codes, true, false, refl, ap}
use Rattle.bib_json.specs.Arrays.{further_elements, array_text, in_pieces}

further_pieces : (elements : List (List ℕ)) → in_pieces false elements ≡ further_elements elements
further_pieces [] = refl
further_pieces (element ∷ rest) = ap (λ t. codes ",\n" ++ (element ++ t)) (further_pieces rest)

pub pieces : (elements : List (List ℕ)) → in_pieces true elements ≡ array_text elements
pieces [] = refl
pieces (element ∷ rest) = ap (λ t. codes "[\n" ++ (element ++ t)) (further_pieces rest)
