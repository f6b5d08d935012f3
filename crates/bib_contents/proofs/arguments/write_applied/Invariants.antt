use Rattle.std.proofs.Common.{◌∷◌, length, reverse}
use Rattle.std.specs.Prelude.{string_bytes}
use Rattle.std.specs.Str.{chars}
use Rattle.bib_contents.specs.Progress.{left}
use Rattle.bib_contents.proofs.FrameFacts.{IsReading, weight}
use Rattle.bib_contents.proofs.arguments.write_applied.Given as goal

abbrev pub invariant-units : goal.invariant-units
invariant-units l =
    IsReading (chars l.name) (left l.fn.inside) (chars (string_bytes l.fn.text)) l.ends l.fn.inside.at
    (length l.fn.inside.text) l.frame (reverse l.frames.items) (string_bytes l.text)

abbrev pub decreases-units : goal.decreases-units
decreases-units l = weight (l.frame ∷ reverse l.frames.items)
