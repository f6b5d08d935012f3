use Rattle.std.proofs.Common.{◌≡◌, ℕ, List, map}
use Rattle.std.specs.BTreeMap.{get_by_text}
use Rattle.std.specs.String.{string_bytes}
use Rattle.bib_findings.specs.Seen.{remembered, stored_indices}
use Rattle.bib_findings.proofs.duplicates.remember.Given as goal

-- `index` is stored for the first identities
abbrev pub invariant-identities : goal.invariant-identities
invariant-identities l =
    (id : List ℕ)
    → stored_indices (get_by_text l.seen id)
    ≡ remembered (map string_bytes l.yielded) l.index id (stored_indices (get_by_text l.initial.seen id))
