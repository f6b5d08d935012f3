use Rattle.std.proofs.Common.{◌≤◌, false, length, get_or, map, take, arith, rules, ap, sym, subst, ◌∙◌}
use Rattle.std.specs.BTreeMap.{get_by_text}
use Rattle.std.proofs.lemmas.List.{take_all}
use Rattle.bib_tables.specs.Requirements.{texts}
use Rattle.bib_syntax.specs.Views.{entry_reading_of}
use Rattle.bib_findings.specs.Adding.{Adds}
use Rattle.bib_findings.specs.Entries.{AreOfEach}
use Rattle.bib_findings.specs.Findings.{AreOfEntry, AreOfKept}
use Rattle.bib_findings.specs.Lacking.{with_flags}
use Rattle.bib_findings.specs.Reported.{reported_missing}
use Rattle.bib_findings.proofs.AddingFacts.{each_at, each_none}
use Rattle.bib_findings.proofs.LackingFacts.{flag_of, flags_count}
use Rattle.bib_findings.proofs.NameFacts.{names_none}
use Rattle.bib_findings.proofs.findings.add_entries.Goals as goal

pub entries-init : goal.entries-init
entries-init c = record {
  met = names_none (get_by_text c.new-met.result) (λ name. search rules);
  added = each_none AreOfKept (map entry_reading_of c.args.said.now) c.args.found.now.items;
}

pub entries-preserved : goal.entries-preserved
entries-preserved c =
    let lacking = c.args.lacking.now in
    let entries = c.args.entries.now in
    let index = c.entries.index in
    let one = c.index-said-origins.result in
    let entry = c.index-entries-index.result in
    record {
      met = c.in_ok-add_entry.ensures.met;
      added =
          each_at AreOfKept c.args.said.now c.args.origins.now (with_flags lacking entries) index one (get_or lacking index false, entry)
          c.args.found.now.items c.entries.found.items c.add_entry.new.found.items
          c.requires.there (c.requires.same_length ∙ sym (flags_count lacking entries))
          (omega (arith, c.entries-test.true, flags_count lacking entries)) c.index-said-origins.is
          (flag_of lacking entries index entry c.entries-test.true c.index-entries-index.is) c.entries.invariant.added
          (subst
          (λ missing.
          Adds (AreOfEntry missing (entry_reading_of one) entry) c.entries.found.items c.add_entry.new.found.items)
          (ap texts c.deref.ensures.value ∙ c.in_ok-missing.ensures
          ∙ ap (λ lacks. reported_missing lacks (entry_reading_of one) entry) c.flag_at-may_lack.ensures)
          c.in_ok-add_entry.ensures.added);
    }

pub returns : goal.returns
returns c =
    let said = map entry_reading_of c.args.said.now in
    let origins = c.args.origins.now in
    let entries = with_flags c.args.lacking.now c.args.entries.now in
    let index = c.entries.index in
    let old = c.args.found.now.items in
    let new = c.entries.found.items in
    let count : length entries ≤ index = omega (arith, flags_count c.args.lacking.now c.args.entries.now, c.entries-test.false) in
    let within : length origins ≤ index = omega (arith, c.requires.same_length) in
    subst (λ l. Adds (AreOfEach AreOfKept said l entries) old new) (take_all index origins within)
    (subst (λ l. Adds (AreOfEach AreOfKept said (take index origins) l) old new) (take_all index entries count)
    c.entries.invariant.added)
