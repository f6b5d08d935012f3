use Rattle.std.proofs.Common.{length}
use Rattle.std.specs.Prelude.{chars, string_bytes}
use Rattle.bib_findings.proofs.LowercaseFacts.{IsFormed}
use Rattle.bib_findings.proofs.lowercase.lowercase_forms.Given as goal

-- the forms so far, and then those of the remaining characters, are the forms of all characters
abbrev pub invariant-characters : goal.invariant-characters
invariant-characters l = IsFormed (chars l.text) (length l.yielded) (string_bytes l.forms)
