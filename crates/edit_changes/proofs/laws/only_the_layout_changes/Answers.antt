use Rattle.edit_changes.proofs.LawFacts.{only_layout, same_content}
use Rattle.edit_changes.proofs.laws.only_the_layout_changes.Goals as goal

pub returns-clause-same : goal.returns-clause-same
returns-clause-same c = same_content

pub returns-clause-layout : goal.returns-clause-layout
returns-clause-layout c = only_layout
