use Rattle.std.proofs.Common.{length}
use Rattle.bib_from_csl.proofs.places.place_of_element.Given as goal

abbrev pub decreases-tokens : goal.decreases-tokens
decreases-tokens l = length l.reader
