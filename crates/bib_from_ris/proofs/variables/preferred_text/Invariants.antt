use Rattle.std.proofs.Common.{◌≡◌, drop}
use Rattle.bib_from_ris.specs.Variables.{preferred_text}
use Rattle.bib_from_ris.proofs.variables.preferred_text.Given as goal

abbrev pub invariant-lines : goal.invariant-lines
invariant-lines l = preferred_text l.name (drop l.line-index l.lines) ≡ preferred_text l.name l.lines
