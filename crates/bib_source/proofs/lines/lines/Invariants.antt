use Rattle.std.proofs.Common.{◌≡◌, ◌≤◌, ◌-◌, ◌++◌, map, drop, take}
use Rattle.std.specs.Str.{IsCharBoundary}
use Rattle.bib_source.specs.Lines.{lines_of}
use Rattle.bib_source.proofs.LineFacts.{after}
use Rattle.bib_source.proofs.lines.lines.Given as goal

abbrev pub invariant-bytes : goal.invariant-bytes
invariant-bytes l = record {
  lines : map (λ line. line.now) l.lines.items
      ++ after (take (l.index - l.start) (drop l.start l.fn.text)) (lines_of (drop l.index l.fn.text))
      ≡ lines_of l.fn.text;
  within : l.start ≤ l.index;
  boundary : IsCharBoundary l.fn.text l.start;
}
