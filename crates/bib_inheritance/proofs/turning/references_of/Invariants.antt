use Rattle.std.proofs.Common.{◌≡◌, map, take}
use Rattle.bib_inheritance.specs.EntryTexts.{texts_of_references}
use Rattle.bib_inheritance.specs.Resolving.{at_index, texts_of_entries}
use Rattle.bib_inheritance.proofs.turning.references_of.Given as goal

-- the entries at the indices so far
abbrev pub invariant-indices : goal.invariant-indices
invariant-indices l = texts_of_references l.references.items ≡ map (at_index (texts_of_entries l.entries)) (take l.r-index l.indices)
