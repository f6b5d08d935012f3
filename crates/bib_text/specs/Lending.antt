-- Meaning: words of public contracts.
-- Lists whose elements are mutably borrowed.
use Rattle.std.specs.Prelude.{List, ◌++◌, length, take, drop}
use Rattle.std.specs.Borrow.{Lends, MutBor, Fml, RattleType, Array, follows}
use Rattle.std.specs.declared.slice.IterMut.{IterMut}
use Rattle.std.specs.Slice.Iter.{iter_mut_name}
use Rattle.bib_text.specs.contracts.items.Items.{the_row}

-- `list` with its first elements replaced by `elements`; its length stays the same
abbrev pub with_elements : {T : Type 0} → List T → List T → List T
with_elements list elements = take (length list) (elements ++ drop (length elements) list)

-- when the borrow ends, the first elements of `list` are replaced by the final elements of the borrowed `slice`
abbrev pub LendsSlice : (T : RattleType) → MutBor (List T.Denot) → MutBor (List T.Denot) → Fml
LendsSlice T list slice = Lends (the_row T) (Array T 0) list slice (with_elements list.now)

-- when the borrow ends, the first elements of `list` are replaced by the final values of the iterator's references, in order
abbrev pub LendsElements : (T : RattleType) → MutBor (List T.Denot) → IterMut T.Denot → Fml
LendsElements T list elements = follows (the_row T) (Array T 0) list.ghost_name (iter_mut_name elements) (with_elements list.now)
