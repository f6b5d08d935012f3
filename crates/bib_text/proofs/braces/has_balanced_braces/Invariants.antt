use Rattle.std.proofs.Common.{◌≡◌, ◌≤◌, false, drop}
use Rattle.bib_text.specs.Braces.{close_braces}
use Rattle.bib_text.proofs.braces.has_balanced_braces.Given as goal

-- the braces of the text are balanced exactly if the bytes still to visit close the braces that are open now
abbrev pub invariant-bytes : goal.invariant-bytes
invariant-bytes l = record {
  left : close_braces l.is_hidden l.depth (drop l.byte-index l.byte-items) ≡ close_braces false 0 l.text;
  within : l.depth ≤ l.byte-index;
}
