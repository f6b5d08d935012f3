use Rattle.std.proofs.Common.{take}
use Rattle.std.specs.List.{AllZip}
use Rattle.bib_text.proofs.items.clones.Given as goal

-- the copies so far are clones of the first elements
abbrev pub invariant-elements : goal.invariant-elements
invariant-elements g l = AllZip g.T.Clone.is_clone (take l.element-index l.elements) l.copies.items
