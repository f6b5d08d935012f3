use Rattle.std.proofs.Common.{◌≡◌, ◌++◌, map, take}
use Rattle.bib_from_ris.proofs.lines.push_between_returns.Given as goal

abbrev pub invariant-parts : goal.invariant-parts
invariant-parts l =
    map (λ line. line.now) l.lines.items
    ≡ map (λ line. line.now) l.initial.lines.items ++ map (λ part. part.now) (take l.part-index l.part-items)
