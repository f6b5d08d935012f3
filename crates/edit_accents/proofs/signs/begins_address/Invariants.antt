use Rattle.std.proofs.Common.{◌≡◌, drop}
use Rattle.edit_accents.specs.Accents.{begins_address}
use Rattle.edit_accents.proofs.signs.begins_address.Given as goal

-- an address word begins in the name of the command exactly if one begins in the characters still to visit
abbrev pub invariant-letters : goal.invariant-letters
invariant-letters l = begins_address l.text ≡ begins_address (drop l.at l.text)
