use Rattle.std.proofs.Common.{◌≡◌, ◌++◌, drop, encode_utf8_all}
use Rattle.std.specs.String.{string_bytes}
use Rattle.edit_accents.specs.Accents.{written}
use Rattle.edit_accents.specs.declared.writing.Spot.TheVariants.{Free}
use Rattle.edit_accents.proofs.writing.written.Given as goal

-- the text so far and that of the signs still to visit make the text of all signs
abbrev pub invariant-signs : goal.invariant-signs
invariant-signs l =
    string_bytes l.text ++ encode_utf8_all (written l.spot (drop l.sign-index l.signs)) ≡ encode_utf8_all (written Free l.signs)
