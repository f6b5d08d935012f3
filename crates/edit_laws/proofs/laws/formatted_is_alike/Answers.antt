use Rattle.std.proofs.Common.{sym, subst}
use Rattle.bib_syntax.proofs.FileFacts.{file_same}
use Rattle.bib_syntax.proofs.AnyFacts.{file_any}
use Rattle.biblatex.specs.Headline.{IsErrorOf}
use Rattle.biblatex.specs.Resolved.{IsAccepted, IsFirstErrorOf, IsLoaded}
use Rattle.edit_laws.proofs.ReadAlikeFacts.{bibliographies_alike, faultless, files_alike}
use Rattle.edit_laws.proofs.laws.formatted_is_alike.Goals as goal

pub returns-clause-accepted : goal.returns-clause-accepted
returns-clause-accepted c style text new says e reads alike accepted (IsErrorOf.syntax reported unread) = unread (_, file_any alike.read)
returns-clause-accepted c style text new says e reads alike accepted (IsErrorOf.first {says = tells} read error) =
    faultless (files_alike style text says alike.tells (sym alike.alike))
    (subst IsAccepted (file_same accepted.reading reads) accepted.accepted)
    (subst (λ s. IsFirstErrorOf s e) (file_same read alike.read) error)

pub returns-clause-alike : goal.returns-clause-alike
returns-clause-alike c style text new says one other reads alike first second =
    bibliographies_alike (files_alike style text says alike.tells (sym alike.alike)) one other
    (subst (λ s. IsLoaded s one) (file_same first.reading reads) first.loaded)
    (subst (λ s. IsLoaded s other) (file_same second.reading alike.read) second.loaded)
