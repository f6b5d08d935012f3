use Rattle.std.proofs.Common.{◌++◌, ℕ, List, length}
use Rattle.std.specs.List.{flat_map}
use Rattle.std.specs.String.{string_bytes}
use denote.Text.{Utf8}
use denote.Shadow.{shadow}
use Rattle.bib_queries.specs.Preambles.{ArePreambles, preamble_line}
use Rattle.bib_queries.proofs.PreambleFacts.{IsLeft}
use Rattle.bib_queries.proofs.preambles.print_preambles.Given as goal

abbrev pub invariant-preambles : goal.invariant-preambles
invariant-preambles l = record {
  utf8 : shadow (Utf8 l.rest);
  left : (insides : List (List ℕ)) → ArePreambles l.joined insides
      → IsLeft l.line_end l.rest (string_bytes l.printed) (string_bytes l.initial.printed ++ flat_map (preamble_line l.line_end) insides);
}

abbrev pub decreases-preambles : goal.decreases-preambles
decreases-preambles l = length l.rest
