use Rattle.std.proofs.Common.{subst, take}
use Rattle.std.specs.BTreeSet.{contains_text}
use Rattle.bib_findings.specs.UsedNames.{HasLowercaseNames, borrowed_texts}
use Rattle.bib_findings.proofs.UnusedFacts.{texts_next}
use Rattle.bib_findings.proofs.unused_definitions.name_set.Goals as goal

pub names-preserved : goal.names-preserved
names-preserved c =
    let names = c.args.names.now in
    let index = c.names.name-index in
    subst (HasLowercaseNames (contains_text c.insert_name.new.set)) (texts_next names index _ c.names-test.true)
    (c.in_ok-insert_name.ensures.set (borrowed_texts (take index names)) c.names.invariant)
