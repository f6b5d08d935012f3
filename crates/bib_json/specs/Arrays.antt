-- Meaning: words of public contracts.
-- A JSON array with each element on a line of its own, and the texts around its elements.
use Rattle.std.specs.Prelude.{ℕ, Bool, false, if◌then◌else◌, List, [], ◌∷◌, ◌++◌, codes}

-- the elements after the first, each after a comma, and the end
abbrev pub further_elements : List (List ℕ) → List ℕ
further_elements [] = codes "\n]\n"
further_elements (element ∷ rest) = codes ",\n" ++ (element ++ further_elements rest)

-- an array with these texts as its elements
abbrev pub array_text : List (List ℕ) → List ℕ
array_text [] = codes "[]\n"
array_text (element ∷ rest) = codes "[\n" ++ (element ++ further_elements rest)

-- the text before an element: `[` and a line feed before the first one, and `,` and a line feed before the others
abbrev pub before_element : Bool → List ℕ
before_element is_first = if is_first then codes "[\n" else codes ",\n"

-- the text after the last element of an array; the flag says whether there is no element
abbrev pub array_end : Bool → List ℕ
array_end is_empty = if is_empty then codes "[]\n" else codes "\n]\n"

-- elements, each after the text before it, and then the end
abbrev pub in_pieces : Bool → List (List ℕ) → List ℕ
in_pieces is_first [] = array_end is_first
in_pieces is_first (element ∷ rest) = before_element is_first ++ (element ++ in_pieces false rest)
