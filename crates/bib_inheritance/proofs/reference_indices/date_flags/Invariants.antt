use Rattle.std.proofs.Common.{◌≡◌, map, take}
use Rattle.bib_inheritance.specs.InheritableDate.{looks_for_date}
use Rattle.bib_inheritance.specs.Resolving.{texts_of_entry}
use Rattle.bib_inheritance.proofs.reference_indices.date_flags.Given as goal

-- for each entry so far, whether it lacks a required date
abbrev pub invariant-entries : goal.invariant-entries
invariant-entries l = l.looks.items ≡ map (λ e. looks_for_date (texts_of_entry e)) (take l.entry-index l.entries)
