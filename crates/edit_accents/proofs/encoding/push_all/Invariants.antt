use Rattle.std.proofs.Common.{◌≡◌, ◌++◌, take, encode_utf8_all}
use Rattle.std.specs.String.{string_bytes}
use Rattle.edit_accents.proofs.encoding.push_all.Given as goal

abbrev pub invariant-characters : goal.invariant-characters
invariant-characters l = string_bytes l.text ≡ string_bytes l.initial.text ++ encode_utf8_all (take l.c-index l.cs)
