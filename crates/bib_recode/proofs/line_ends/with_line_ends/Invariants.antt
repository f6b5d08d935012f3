use Rattle.std.proofs.Common.{◌≡◌, ◌++◌}
use Rattle.std.specs.Prelude.{false, string_bytes}
use Rattle.bib_recode.specs.LineEnds.{ended_after, mark_if}
use Rattle.bib_recode.proofs.LineEndFacts.{ends_in_return}
use Rattle.bib_recode.proofs.line_ends.with_line_ends.Given as goal

-- the characters so far have their line ends, and the flag says whether the last of them is a carriage return
abbrev pub invariant-chars : goal.invariant-chars
invariant-chars l = record {
  ended : string_bytes l.out ≡ mark_if l.has_mark ++ ended_after l.ends false l.yielded;
  flag : l.is_after_return ≡ ends_in_return false l.yielded;
}
