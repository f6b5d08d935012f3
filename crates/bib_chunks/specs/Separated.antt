-- Meaning: words of public contracts.
-- Lists that are written with a separator between each two parts: a comma in `keywords`, for example, or the word `and`
-- between names.
use Rattle.std.specs.Prelude.{ℕ, List, [], ◌∷◌, ◌++◌, codes}
use Rattle.std.specs.List.{flat_map}
use Rattle.bib_chunks.specs.declared.chunk.Chunk.TheVariants.{Normal}
use Rattle.bib_chunks.specs.Values.{Value, nowhere}

-- a part of a list after a separator, which is a normal chunk with a detached span
abbrev pub after_separator : List ℕ → Value → Value
after_separator separator part = nowhere (Normal separator) ∷ part

-- the parts of a list with a separator between each two
abbrev pub joined_by : List ℕ → List Value → Value
joined_by separator [] = []
joined_by separator (part ∷ rest) = part ++ flat_map (after_separator separator) rest

-- values as an `and` list: their chunks, with ` and ` between each two values
abbrev pub parts_written : List Value → Value
parts_written = joined_by (codes " and ")
