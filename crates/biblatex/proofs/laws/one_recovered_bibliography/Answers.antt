use Rattle.std.proofs.Common.{sym, subst}
use Rattle.std.specs.List.{AllZip}
use Rattle.bib_file_entries.specs.Kept.{IsKeptFrom}
use Rattle.biblatex.proofs.OriginFacts.{origins_once, recovered_rises}
use Rattle.biblatex.proofs.RecoveredLaws.{kept_once, recovered_once}
use Rattle.biblatex.proofs.laws.one_recovered_bibliography.Goals as goal

pub returns-clause-same : goal.returns-clause-same
returns-clause-same c text one other origins indices skipped passed errors others first second = recovered_once one other first second

pub returns-clause-origins : goal.returns-clause-origins
returns-clause-origins c text one other origins indices skipped passed errors others first second =
    let same = kept_once one other first second in
    origins_once 0 first.says.entries origins indices first.kept (recovered_rises first.recovery) first.origin
    (subst (λ k. AllZip (IsKeptFrom first.says.entries) indices k) (sym same.1)
    (subst (λ s. AllZip (IsKeptFrom s) indices second.kept) (sym same.0) second.origin))
