use Rattle.std.proofs.Common.{sym, ◌∙◌}
use Rattle.edit_entries.proofs.InTurnFacts.{in_turn}
use Rattle.edit_entries.proofs.laws.removals_are_in_turn.Goals as goal

pub returns : goal.returns
returns c d after keys read distinct removed =
    let all = in_turn keys d removed.edits read distinct removed.found removed.removals in
    (all.0, all.1, all.2, all.3 ∙ sym removed.text)
