use Rattle.std.proofs.Common.{subst}
use Rattle.bib_syntax.proofs.FileFacts.{file_same}
use Rattle.bib_syntax.proofs.AnyFacts.{file_any}
use Rattle.biblatex.specs.Headline.{IsErrorOf}
use Rattle.biblatex.specs.Resolved.{AreOwn, IsAccepted, IsFirstErrorOf, IsLoaded}
use Rattle.edit_laws.proofs.SortedErrorFacts.{sorted_accepted}
use Rattle.edit_laws.proofs.SortedFacts.{distinct_same, permuted_own, same_entries, sorted_read}
use Rattle.edit_laws.proofs.laws.sorted_is_alike.Goals as goal

pub returns-clause-own : goal.returns-clause-own
returns-clause-own c d places new says own others sorted first reads second =
    permuted_own d.says sorted.tells (sorted_read d places new sorted) own others first
    (subst (λ s. AreOwn s others) (file_same reads sorted.read) second)

pub returns-clause-rest : goal.returns-clause-rest
returns-clause-rest c d places new own one other reads sorted are distinct first second =
    let old = subst (λ s. IsLoaded s one) (file_same first.reading reads) first.loaded in
    let now = subst (λ s. IsLoaded s other) (file_same second.reading sorted.read) second.loaded in
    same_entries old now own are (sorted_read d places new sorted) distinct

pub returns-clause-accepted : goal.returns-clause-accepted
returns-clause-accepted c d places new own e reads sorted are distinct accepted (IsErrorOf.syntax reported unread) =
    unread (_, file_any sorted.read)
returns-clause-accepted c d places new own e reads sorted are distinct accepted (IsErrorOf.first {says = tells} read error) =
    let old = subst IsAccepted (file_same accepted.reading reads) accepted.accepted in
    sorted_accepted d.says sorted.tells (sorted_read d places new sorted) old (distinct_same d.says are old.entries distinct)
    (subst (λ s. IsFirstErrorOf s e) (file_same read sorted.read) error)
