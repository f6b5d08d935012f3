use Rattle.std.proofs.Common.{◌≡◌, drop}
use Rattle.bib_from_csl.specs.Losses.{content_of}
use Rattle.bib_from_csl.proofs.losses.content_of.Given as goal

abbrev pub invariant-fields : goal.invariant-fields
invariant-fields l = content_of l.name (drop l.field-index l.fields) ≡ content_of l.name l.fields
