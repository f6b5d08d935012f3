use Rattle.std.proofs.Common.{[], ℕ, List}
use denote.Ref.{Bor}
use Rattle.bib_inheritance.specs.EntryTexts.{texts_of_reference}
use Rattle.bib_inheritance.proofs.GatheredFacts.{groups_more}
use Rattle.bib_inheritance.proofs.gathering.gather_groups.Goals as goal

abbrev no_group : Bor (List (Bor (List ℕ)))
no_group = record { ref_ptr = (0, 0); now = [] }

pub groups-preserved : goal.groups-preserved
groups-preserved c =
    groups_more c.args.groups.now c.groups.group-index no_group (texts_of_reference c.args.reference.now)
    c.args.gathered.now c.groups.gathered c.gather_offers.new.gathered c.groups-test.true
    c.in_ok-gather_offers.ensures c.groups.invariant
