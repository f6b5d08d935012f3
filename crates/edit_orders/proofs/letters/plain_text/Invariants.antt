use Rattle.std.proofs.Common.{◌≡◌}
use Rattle.std.specs.Prelude.{string_bytes}
use Rattle.std.specs.List.{flat_map}
use Rattle.edit_orders.specs.Letters.{sort_character}
use Rattle.edit_orders.proofs.letters.plain_text.Given as goal

abbrev pub invariant-chars : goal.invariant-chars
invariant-chars l = string_bytes l.out ≡ flat_map sort_character l.yielded
