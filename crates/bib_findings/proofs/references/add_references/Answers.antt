use Rattle.std.proofs.Common.{refl, map}
use Rattle.bib_syntax.specs.Views.{entry_reading_of}
use Rattle.bib_findings.specs.References.{AreReferences, entry_references}
use Rattle.bib_findings.proofs.AddingFacts.{added_known, each_at, each_none}
use Rattle.bib_findings.proofs.references.add_references.Goals as goal

pub entries-init : goal.entries-init
entries-init c = each_none (AreReferences c.args.names.now) (map entry_reading_of c.args.said.now) c.args.found.now.items

pub entries-preserved : goal.entries-preserved
entries-preserved c =
    let one = c.index-said-origins.result in
    let entry = c.index-own-index.result in
    each_at (AreReferences c.args.names.now) c.args.said.now c.args.origins.now c.args.own.now c.entries.index one entry
    c.args.found.now.items c.entries.found.items c.add_entry_references.new.found.items
    c.requires.there c.requires.same_length c.entries-test.true c.index-said-origins.is c.index-own-index.is c.entries.invariant
    (added_known (AreReferences c.args.names.now (entry_reading_of one) entry)
    (entry_references c.args.names.now (entry_reading_of one) entry) c.entries.found.items
    c.add_entry_references.new.found.items refl c.in_ok-add_entry_references.ensures)
