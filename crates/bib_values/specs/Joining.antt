-- Machinery: words of private contracts.
-- Lists that are written part by part.
use Rattle.std.specs.Prelude.{ℕ, Bool, true, false, List, [], ◌∷◌}
use Rattle.bib_chunks.specs.declared.chunk.Chunk.TheVariants.{Normal}
use Rattle.bib_chunks.specs.Values.{Value, nowhere}

-- the separator before a part, as a normal chunk, unless the part is the first
abbrev pub unless_first : Bool → List ℕ → Value
unless_first true separator = []
unless_first false separator = nowhere (Normal separator) ∷ []
