use Rattle.std.proofs.Common.{◌≡◌, false, drop}
use Rattle.edit_format.specs.Delimited.{hide_quotes}
use Rattle.edit_format.proofs.delimiters.can_stand_in_quotes.Given as goal

-- the content can be written in quotes exactly if the bytes still to visit have no unescaped quote and no backslash at the end
abbrev pub invariant-bytes : goal.invariant-bytes
invariant-bytes l = hide_quotes l.is_hidden (drop l.byte-index l.byte-items) ≡ hide_quotes false l.content
