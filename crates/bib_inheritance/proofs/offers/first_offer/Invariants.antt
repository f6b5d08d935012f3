use Rattle.std.proofs.Common.{◌≡◌, drop}
use Rattle.bib_tables.specs.Requirements.{texts}
use Rattle.bib_inheritance.specs.Inherited.{first_offer}
use Rattle.bib_inheritance.specs.EntryTexts.{fields_of}
use Rattle.bib_inheritance.proofs.offers.first_offer.Given as goal

abbrev pub invariant-names : goal.invariant-names
invariant-names l = first_offer (fields_of l.fields) (texts l.names) ≡ first_offer (fields_of l.fields) (texts (drop l.name-index l.names))
