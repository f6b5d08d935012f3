use Rattle.std.proofs.Common.{◌≡◌}
use Rattle.std.specs.Prelude.{string_bytes}
use Rattle.std.specs.List.{flat_map}
use Rattle.bib_keys.specs.Letters.{key_letter}
use Rattle.bib_keys.proofs.letters.key_letters.Given as goal

abbrev pub invariant-chars : goal.invariant-chars
invariant-chars l = string_bytes l.out ≡ flat_map key_letter l.yielded
