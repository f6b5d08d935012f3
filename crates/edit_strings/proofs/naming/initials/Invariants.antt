use Rattle.std.proofs.Common.{◌≡◌, false}
use Rattle.std.specs.String.{string_bytes}
use Rattle.edit_strings.proofs.LetterFacts.{letters_in, met_in}
use Rattle.edit_strings.proofs.naming.initials.Given as goal

abbrev pub invariant-chars : goal.invariant-chars
invariant-chars l = record {
  letters : string_bytes l.initials ≡ letters_in false l.yielded;
  met : l.is_met ≡ met_in false l.yielded;
}
