use Rattle.std.proofs.Common.{◌≡◌, List, ℕ, take, map}
use Rattle.bib_abbreviations.specs.Abbreviations.{definition_in, sorted_in}
use Rattle.bib_syntax.specs.Views.{field_of}
use Rattle.bib_abbreviations.proofs.definitions.definitions.Given as goal

-- the map contains the last of the definitions so far for each name
abbrev pub invariant-definitions : goal.invariant-definitions
invariant-definitions l = (name : List ℕ) → sorted_in l.definitions name ≡ definition_in (map field_of (take l.pair-index l.pairs)) name
