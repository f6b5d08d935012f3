use Rattle.std.proofs.Common.{◌≡◌, [], drop}
use Rattle.bib_csl.specs.Texts.{listed_after}
use Rattle.bib_csl.proofs.texts.listed.Given as goal

abbrev pub invariant-parts : goal.invariant-parts
invariant-parts l = listed_after l.text (drop l.part-index l.parts) ≡ listed_after [] l.parts
