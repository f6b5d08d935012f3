use Rattle.std.proofs.Common.{subst}
use Rattle.bib_syntax.proofs.FileFacts.{file_same}
use Rattle.bib_syntax.proofs.AnyFacts.{file_any}
use Rattle.biblatex.specs.Headline.{IsErrorOf}
use Rattle.biblatex.specs.Resolved.{IsAccepted, IsFirstErrorOf, IsLoaded}
use Rattle.edit_laws.proofs.DifferFacts.{alike_except, unlinked}
use Rattle.edit_laws.proofs.SetFacts.{set_accepted, set_contents, set_own, value_set}
use Rattle.edit_laws.proofs.laws.set_is_read.Goals as goal

pub returns-clause-own : goal.returns-clause-own
returns-clause-own c d after key name text value own others reads is set first second =
    set_own (value_set reads is set) own others first second

pub returns-clause-contents : goal.returns-clause-contents
returns-clause-contents c d after key name text value bibliography reads reads' is set apart found =
    set_contents (value_set reads is set) (subst (λ s. IsLoaded s bibliography) (file_same found.reading reads') found.loaded) apart

pub returns-clause-rest : goal.returns-clause-rest
returns-clause-rest c d after key name text value own one other reads reads' is set apart are first second =
    let old = subst (λ s. IsLoaded s one) (file_same first.reading reads) first.loaded in
    let new = subst (λ s. IsLoaded s other) (file_same second.reading reads') second.loaded in
    let s = set_own (value_set reads is set) own new.accepted.own are new.accepted.entries in
    alike_except old new own are s.differ (unlinked _ apart) s.is

pub returns-clause-accepted : goal.returns-clause-accepted
returns-clause-accepted c d after key name text value e reads reads' is set apart can accepted (IsErrorOf.syntax reported unread) =
    unread (_, file_any reads')
returns-clause-accepted c d after key name text value e reads reads' is set apart can accepted
    (IsErrorOf.first {says = tells} read error) =
    set_accepted (value_set reads is set) can.0 can.1 (unlinked _ apart)
    (subst IsAccepted (file_same accepted.reading reads) accepted.accepted)
    (subst (λ s. IsFirstErrorOf s e) (file_same read reads') error)
