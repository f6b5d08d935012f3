use Rattle.std.proofs.Common.{◌≡◌, ◌++◌, map, take}
use Rattle.std.specs.BTreeSet.{contains_text}
use Rattle.bib_syntax.specs.Views.{entry_reading_of}
use Rattle.bib_findings.specs.Duplicates.{entries_at}
use Rattle.bib_findings.specs.FirstKeys.{AreKeysSeen}
use Rattle.bib_findings.specs.ParentOrder.{early_among}
use Rattle.bib_findings.proofs.parent_order.add_early_among.Given as goal

-- the set contains the keys of the first entries in lowercase, and the findings of these entries were appended
abbrev pub invariant-origins : goal.invariant-origins
invariant-origins l = record {
  seen : AreKeysSeen (contains_text l.seen) (entries_at (map entry_reading_of l.said) (take l.index-index l.origins));
  found : l.found.items
      ≡ l.initial.found.items ++ early_among (entries_at (map entry_reading_of l.said) (take l.index-index l.origins));
}
