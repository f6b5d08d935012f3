use Rattle.std.proofs.Common.{◌≡◌, ◌++◌, map, drop}
use Rattle.bib_from_ris.specs.Lines.{lines_after, no_line}
use Rattle.bib_from_ris.proofs.lines.joined_lines.Given as goal

abbrev pub invariant-lines : goal.invariant-lines
invariant-lines l =
    l.found ++ lines_after (record { tag = l.tag; value = l.value }) (map (λ line. line.now) (drop l.line-index l.lines))
    ≡ lines_after no_line (map (λ line. line.now) l.lines)
