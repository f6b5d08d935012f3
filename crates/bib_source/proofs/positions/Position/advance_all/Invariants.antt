use Rattle.std.proofs.Common.{◌≡◌, ◌≤◌, ◌+◌, ◌++◌, ℕ, List, take}
use Rattle.bib_source.specs.Positions.{position_after}
use Rattle.bib_source.proofs.positions.Position.advance_all.Given as goal

-- a position after a text is now the one after it and the bytes so far; line and column grew by at most their number
abbrev pub invariant-bytes : goal.invariant-bytes
invariant-bytes l = record {
  after : (before : List ℕ) → l.fn.self ≡ position_after before → l.position ≡ position_after (before ++ take l.byte-index l.bytes);
  line : l.position.line ≤ l.fn.self.line + l.byte-index;
  column : l.position.column ≤ l.fn.self.column + l.byte-index;
}
