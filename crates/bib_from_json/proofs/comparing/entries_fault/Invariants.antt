use Rattle.std.proofs.Common.{◌≡◌, ◌≤◌, length, take}
use Rattle.bib_from_json.specs.SameEntries.{AreSameEntries}
use Rattle.bib_from_json.proofs.comparing.entries_fault.Given as goal

abbrev pub invariant-entries : goal.invariant-entries
invariant-entries l =
    (l.index ≡ l.entry-index) × (l.index ≤ length l.entries) × AreSameEntries (take l.index l.given) (take l.index l.entries)
