use Rattle.std.proofs.Common.{subst}
use Rattle.bib_syntax.proofs.FileFacts.{file_same}
use Rattle.bib_syntax.proofs.AnyFacts.{file_any}
use Rattle.biblatex.specs.Headline.{IsErrorOf}
use Rattle.biblatex.specs.Resolved.{IsAccepted, IsFirstErrorOf, IsLoaded}
use Rattle.edit_laws.proofs.ExpandedFacts.{files_expanded}
use Rattle.edit_laws.proofs.ReadAlikeFacts.{bibliographies_alike, faultless}
use Rattle.edit_laws.proofs.laws.expanded_is_alike.Goals as goal

pub returns-clause-accepted : goal.returns-clause-accepted
returns-clause-accepted c d text e reads expanded alike accepted (IsErrorOf.syntax reported unread) =
    unread (_, file_any expanded.changed.read.read)
returns-clause-accepted c d text e reads expanded alike accepted (IsErrorOf.first {says = tells} read error) =
    faultless (files_expanded d text expanded alike)
    (subst IsAccepted (file_same accepted.reading reads) accepted.accepted)
    (subst (λ s. IsFirstErrorOf s e) (file_same read expanded.changed.read.read) error)

pub returns-clause-alike : goal.returns-clause-alike
returns-clause-alike c d text one other reads expanded alike first second =
    bibliographies_alike (files_expanded d text expanded alike) one other
    (subst (λ s. IsLoaded s one) (file_same first.reading reads) first.loaded)
    (subst (λ s. IsLoaded s other) (file_same second.reading expanded.changed.read.read) second.loaded)
