use Rattle.std.proofs.Common.{◌≡◌, ◌++◌, reverse}
use Rattle.std.proofs.iter.Next as it
use Rattle.std.specs.FinMap as map
use Rattle.std.specs.Iterator.{EndsFrom, items_left}
use Rattle.bib_collections.proofs.text_map.TextMapExtendTuple2Text.extend.Given as goal

-- the pairs so far are inserted
abbrev pub invariant-pairs : goal.invariant-pairs
invariant-pairs g l =
    it.Ran g.U.IntoIter.Iterator.can_next (EndsFrom g.U.IntoIter.Iterator.remaining) (items_left g.U.IntoIter.Iterator.remaining)
    g.U.IntoIter.Iterator.next_gives (λ pairs. l.self ≡ map.from_entries (reverse pairs ++ map.entries l.fn.self))
    l.initial.name-iterator l.name-iterator
