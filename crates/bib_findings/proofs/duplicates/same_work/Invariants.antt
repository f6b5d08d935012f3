use Rattle.std.proofs.Common.{◌≡◌, drop, map}
use Rattle.std.specs.BTreeMap.{get_by_text}
use Rattle.std.specs.String.{string_bytes}
use Rattle.bib_syntax.specs.Views.{entry_reading_of}
use Rattle.bib_findings.specs.Seen.{alike_among}
use Rattle.bib_findings.proofs.duplicates.same_work.Given as goal

-- the remaining identities find the same entry as all identities
abbrev pub invariant-identities : goal.invariant-identities
invariant-identities l =
    alike_among (get_by_text l.seen) (map entry_reading_of l.said) (entry_reading_of l.one) (map string_bytes l.identities)
    ≡ alike_among (get_by_text l.seen) (map entry_reading_of l.said) (entry_reading_of l.one)
    (map string_bytes (drop l.identity-index l.identities))
