use Rattle.std.proofs.Common.{◌≡◌, ◌≤◌, ◌++◌, false, drop}
use Rattle.edit_accents.specs.Accents.{signs}
use Rattle.edit_accents.specs.Balance.{open_count}
use Rattle.edit_accents.specs.declared.signs.Stretch.TheVariants.{Text}
use Rattle.edit_accents.proofs.signs.signs.Given as goal

-- the signs so far and those of the characters still to visit are those of all characters
abbrev pub invariant-characters : goal.invariant-characters
invariant-characters l = record {
  made : l.signs.items ++ signs l.stretch l.is_escaped (drop l.at l.c-items) ≡ signs Text false l.c-items;
  count : open_count l.stretch ≤ l.at;
}
