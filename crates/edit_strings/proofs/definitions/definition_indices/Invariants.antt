use Rattle.std.proofs.Common.{map}
use Rattle.bib_syntax.specs.Views.{field_of}
use Rattle.edit_strings.specs.Tables.{AreIndices}
use Rattle.edit_strings.proofs.definitions.definition_indices.Given as goal

-- each name has the index of its last definition among those so far
abbrev pub invariant-definitions : goal.invariant-definitions
invariant-definitions l = AreIndices l.indices (map field_of l.definitions) l.index
