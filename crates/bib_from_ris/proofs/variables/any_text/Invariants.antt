use Rattle.std.proofs.Common.{◌≡◌, drop}
use Rattle.bib_from_ris.specs.Variables.{any_text}
use Rattle.bib_from_ris.proofs.variables.any_text.Given as goal

abbrev pub invariant-lines : goal.invariant-lines
invariant-lines l = any_text l.name (drop l.line-index l.lines) ≡ any_text l.name l.lines
