use Rattle.std.proofs.Common.{◌≡◌, ◌++◌, drop, length}
use Rattle.edit_accents.specs.Accents.{leading_letters}
use Rattle.edit_accents.proofs.decoding.letters.Given as goal

abbrev pub invariant-signs : goal.invariant-signs
invariant-signs l = record {
  found : l.found.items ++ leading_letters (drop l.sign-index l.signs) ≡ leading_letters l.signs;
  size : length l.found.items ≡ l.sign-index;
}
