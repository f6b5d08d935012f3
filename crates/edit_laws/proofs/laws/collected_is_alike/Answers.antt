use Rattle.std.proofs.Common.{subst}
use Rattle.bib_syntax.proofs.FileFacts.{file_same}
use Rattle.bib_syntax.proofs.AnyFacts.{file_any}
use Rattle.biblatex.specs.Headline.{IsErrorOf}
use Rattle.biblatex.specs.Resolved.{IsAccepted, IsFirstErrorOf, IsLoaded}
use Rattle.edit_laws.proofs.CollectedFacts.{files_collected}
use Rattle.edit_laws.proofs.ReadAlikeFacts.{bibliographies_alike, faultless}
use Rattle.edit_laws.proofs.laws.collected_is_alike.Goals as goal

pub returns-clause-accepted : goal.returns-clause-accepted
returns-clause-accepted c d fields least text e reads made accepted (IsErrorOf.syntax reported unread) =
    unread (_, file_any made.read.read)
returns-clause-accepted c d fields least text e reads made accepted (IsErrorOf.first {says = tells} read error) =
    faultless (files_collected d reads fields least text made)
    (subst IsAccepted (file_same accepted.reading reads) accepted.accepted)
    (subst (λ s. IsFirstErrorOf s e) (file_same read made.read.read) error)

pub returns-clause-alike : goal.returns-clause-alike
returns-clause-alike c d fields least text one other reads made first second =
    bibliographies_alike (files_collected d reads fields least text made) one other
    (subst (λ s. IsLoaded s one) (file_same first.reading reads) first.loaded)
    (subst (λ s. IsLoaded s other) (file_same second.reading made.read.read) second.loaded)
