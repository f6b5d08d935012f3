use Rattle.std.proofs.Common.{length}
use Rattle.std.specs.Prelude.{chars, string_bytes}
use Rattle.bib_findings.proofs.OutsideFacts.{IsOutside}
use Rattle.bib_findings.proofs.outside.outside_braces.Given as goal

-- the text so far, and then that of the remaining characters, are the text outside braces
abbrev pub invariant-characters : goal.invariant-characters
invariant-characters l = IsOutside (chars l.text) (length l.yielded) l.depth (string_bytes l.outside)
