use Rattle.std.proofs.Common.{sym, subst}
use Rattle.edit_entries.specs.NewNames.{CanBeNewKey}
use Rattle.edit_entries.proofs.keys.have_new_keys.Goals as goal

pub returns-in-Some : goal.returns-in-Some
returns-in-Some c = λ all.
    let first = c.in-Some.ensures in
    first.cant (subst CanBeNewKey (sym first.is) (all first.index first.entry first.here))
