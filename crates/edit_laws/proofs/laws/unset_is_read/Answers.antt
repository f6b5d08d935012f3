use Rattle.std.proofs.Common.{subst}
use Rattle.bib_syntax.proofs.FileFacts.{file_same}
use Rattle.bib_syntax.proofs.AnyFacts.{file_any}
use Rattle.biblatex.specs.Headline.{IsErrorOf}
use Rattle.biblatex.specs.Resolved.{IsAccepted, IsFirstErrorOf, IsLoaded}
use Rattle.edit_laws.proofs.DifferFacts.{alike_except, unlinked}
use Rattle.edit_laws.proofs.UnsetFacts.{unset_accepted, unset_inherited, unset_own, unset_read}
use Rattle.edit_laws.proofs.laws.unset_is_read.Goals as goal

pub returns-clause-own : goal.returns-clause-own
returns-clause-own c d after key name own others gone first second = unset_own (unset_read gone) own others first second

pub returns-clause-inherited : goal.returns-clause-inherited
returns-clause-inherited c d after key name own bibliography reads gone apart are found =
    unset_inherited (unset_read gone) own are (subst (λ s. IsLoaded s bibliography) (file_same found.reading reads) found.loaded)
    (unlinked _ apart)

pub returns-clause-rest : goal.returns-clause-rest
returns-clause-rest c d after key name own one other reads reads' gone apart are first second =
    let old = subst (λ s. IsLoaded s one) (file_same first.reading reads) first.loaded in
    let new = subst (λ s. IsLoaded s other) (file_same second.reading reads') second.loaded in
    let s = unset_own (unset_read gone) own new.accepted.own are new.accepted.entries in
    alike_except old new own are s.differ (unlinked _ apart) s.is

pub returns-clause-accepted : goal.returns-clause-accepted
returns-clause-accepted c d after key name e reads reads' gone apart accepted (IsErrorOf.syntax reported unread) =
    unread (_, file_any reads')
returns-clause-accepted c d after key name e reads reads' gone apart accepted (IsErrorOf.first {says = tells} read error) =
    unset_accepted (unset_read gone) (unlinked _ apart) (subst IsAccepted (file_same accepted.reading reads) accepted.accepted)
    (subst (λ s. IsFirstErrorOf s e) (file_same read reads') error)
