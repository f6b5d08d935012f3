use Rattle.std.proofs.Common.{◌≡◌, ◌++◌, false, drop}
use Rattle.bib_queries.specs.EqualValues.{with_single_spaces}
use Rattle.bib_queries.proofs.equal_values.with_single_spaces.Given as goal

-- the bytes so far, followed by the remaining text with single spaces, are the whole text with single spaces
abbrev pub invariant-bytes : goal.invariant-bytes
invariant-bytes l = l.spaced.items ++ with_single_spaces l.is_after (drop l.b-index l.text) ≡ with_single_spaces false l.text
