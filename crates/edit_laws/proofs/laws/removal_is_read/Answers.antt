use Rattle.std.proofs.Common.{subst}
use Rattle.bib_syntax.proofs.FileFacts.{file_same}
use Rattle.bib_syntax.proofs.AnyFacts.{file_any}
use Rattle.biblatex.specs.Headline.{IsErrorOf}
use Rattle.biblatex.specs.Resolved.{IsAccepted, IsFirstErrorOf, IsLoaded}
use Rattle.edit_laws.proofs.RemovedFacts.{bibliography_without, removed_accepted, removed_own, removed_read, unreferenced_same}
use Rattle.edit_laws.proofs.laws.removal_is_read.Goals as goal

pub returns-clause-own : goal.returns-clause-own
returns-clause-own c d after key own others gone first second =
    removed_own d.says after.says (removed_read gone) own others first second

pub returns-clause-rest : goal.returns-clause-rest
returns-clause-rest c d after key own one other reads reads' gone are unreferenced first second =
    let old = subst (λ s. IsLoaded s one) (file_same first.reading reads) first.loaded in
    let new = subst (λ s. IsLoaded s other) (file_same second.reading reads') second.loaded in
    bibliography_without old new own are
    (removed_own d.says after.says (removed_read gone) own new.accepted.own are new.accepted.entries) unreferenced

pub returns-clause-accepted : goal.returns-clause-accepted
returns-clause-accepted c d after key own e reads reads' gone are unreferenced accepted (IsErrorOf.syntax reported unread) =
    unread (_, file_any reads')
returns-clause-accepted c d after key own e reads reads' gone are unreferenced accepted (IsErrorOf.first {says = tells} read error) =
    let old = subst IsAccepted (file_same accepted.reading reads) accepted.accepted in
    removed_accepted d.says after.says (removed_read gone) old (unreferenced_same d.says are old.entries unreferenced)
    (subst (λ s. IsFirstErrorOf s e) (file_same read reads') error)
