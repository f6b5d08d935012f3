use Rattle.std.proofs.Common.{◌≡◌, encode_utf8_all}
use Rattle.std.specs.Prelude.{string_bytes, false}
use Rattle.edit_orders.specs.Letters.{outside_names}
use Rattle.edit_orders.proofs.LetterFacts.{ends_in_name}
use Rattle.edit_orders.proofs.letters.without_commands.Given as goal

-- the text so far has the characters so far that are outside of names. The flag says whether the last one belongs to a name.
abbrev pub invariant-chars : goal.invariant-chars
invariant-chars l = record {
  kept : string_bytes l.out ≡ encode_utf8_all (outside_names false l.yielded);
  flag : l.is_name ≡ ends_in_name false l.yielded;
}
