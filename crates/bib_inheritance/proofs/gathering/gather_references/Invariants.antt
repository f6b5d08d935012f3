use Rattle.std.proofs.Common.{◌≡◌, ◌-◌, ℕ, List, length, drop}
use Rattle.bib_inheritance.specs.Inherited.{inherited_field}
use Rattle.bib_inheritance.specs.Gathering.{gathered_text}
use Rattle.bib_inheritance.specs.EntryTexts.{texts_of_references}
use Rattle.bib_inheritance.proofs.gathering.gather_references.Given as goal

-- the fields collected are those inherited from the references so far, from the end
abbrev pub invariant-references : goal.invariant-references
invariant-references l =
    (name : List ℕ)
    → gathered_text l.gathered name
    ≡ inherited_field l.entry_type name (texts_of_references (drop (length l.references - l.done) l.references))
