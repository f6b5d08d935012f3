use Rattle.std.proofs.Common.{◌≡◌, ◌≤◌, ◌<◌, ℕ}
use Rattle.bib_source.specs.Visible.{is_visible}
use Rattle.bib_source.proofs.hunks.run_end.Given as goal

abbrev pub invariant-lines : goal.invariant-lines
invariant-lines l = (i : ℕ) → l.fn.start ≤ i → i < l.index → is_visible l.fn.lines i ≡ l.fn.are_visible
