use Rattle.std.proofs.Common.{◌≡◌, map, take}
use Rattle.bib_entry.specs.Parents.{has_references}
use Rattle.bib_inheritance.proofs.reference_indices.reference_flags.Given as goal

-- the flags of the entries so far
abbrev pub invariant-entries : goal.invariant-entries
invariant-entries l = l.flags.items ≡ map has_references (take l.entry-index l.entries)
