use Rattle.std.proofs.Common.{◌≡◌, ◌≤◌, ◌++◌, false, drop, encode_utf8_all}
use Rattle.std.specs.String.{string_bytes}
use Rattle.edit_accents.specs.Balance.{open_count}
use Rattle.edit_accents.specs.Encoded.{encoded}
use Rattle.edit_accents.specs.declared.signs.Stretch.TheVariants.{Text}
use Rattle.edit_accents.proofs.encoding.with_commands.Given as goal

-- the text so far and that of the characters still to visit make the text of all characters
abbrev pub invariant-characters : goal.invariant-characters
invariant-characters l = record {
  made : string_bytes l.new ++ encode_utf8_all (encoded l.stretch l.is_escaped (drop l.at l.c-items))
      ≡ encode_utf8_all (encoded Text false l.c-items);
  count : open_count l.stretch ≤ l.at;
}
