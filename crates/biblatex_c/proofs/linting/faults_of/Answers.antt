use Rattle.std.proofs.Common.{◌∙◌, ◌++◌, ap₂, refl, subst, sym}
use Rattle.biblatex_c.specs.Calls.{AreFaults}
use Rattle.biblatex_c.proofs.FaultFacts.{faults_found}
use Rattle.biblatex_c.proofs.linting.faults_of.Goals as goal

pub returns-clause-found : goal.returns-clause-found
returns-clause-found c =
    let begun = c.in_ok-push_str.ensures.bytes ∙ ap₂ ◌++◌ c.in_ok-text.ensures.ok c.deref.ensures in
    let whole = c.in_ok-push_str-2.ensures.bytes ∙ ap₂ ◌++◌ begun c.deref-2.ensures in
    subst (AreFaults c.args.bytes.now) (sym whole) (faults_found _ c.new-linting.result c.file.new.self
    c.new-linting.ensures refl c.all.ensures.only c.all.ensures.ignored c.all.ensures.accepted refl
    c.new.ensures.items refl c.none.ensures.fields c.none.ensures.types c.none.ensures.abbreviations
    c.begin.ensures c.in_ok-found.ensures c.in_ok-ending.ensures)
