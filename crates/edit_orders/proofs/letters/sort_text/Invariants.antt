use Rattle.std.proofs.Common.{◌≡◌, map}
use Rattle.std.specs.Prelude.{string_bytes}
use Rattle.std.specs.List.{flat_map}
use Rattle.edit_orders.specs.Letters.{word_and_space}
use Rattle.edit_orders.proofs.letters.sort_text.Given as goal

abbrev pub invariant-words : goal.invariant-words
invariant-words l = string_bytes l.out ≡ flat_map word_and_space (map (λ word. word.now) l.yielded)
