use Rattle.std.proofs.Common.{map}
use Rattle.bib_findings.specs.Errors.{block_finding, error_finding}
use Rattle.bib_syntax.specs.Views.{entry_reading_of, field_of}
use Rattle.bib_findings.proofs.AddingFacts.{added_in_order, sorted_are}
use Rattle.bib_findings.proofs.findings.findings_in.Goals as goal

pub returns : goal.returns
returns c =
    let blocks = map (block_finding c.args.text.now (map entry_reading_of c.args.said.now)) c.args.skipped.now in
    let definitions = map field_of c.args.definitions.now in
    let errors = map (error_finding definitions) c.args.errors.now in
    let reports = c.in_ok-add_entries.ensures in
    sorted_are c.args.text.now c.args.skipped.now c.args.lacking.now definitions c.args.errors.now (map entry_reading_of c.args.said.now)
    c.args.origins.now c.args.entries.now c.args.between.items reports.added c.append.new.self.items c.sorted_by_place.result
    reports.are
    (added_in_order c.new-found.result.items c.add_blocks.new.found.items c.add_errors.new.found.items
    c.add_entries.new.found.items c.append.new.self.items blocks errors reports.added c.args.between.items
    c.new-found.ensures.items c.in_ok-add_blocks.ensures c.in_ok-add_errors.ensures reports.new_is c.in_ok-append.ensures.items)
    c.sorted_by_place.ensures
