use Rattle.std.proofs.Common.{◌≡◌, ◌≤◌, ◌-◌, length, List, false}
use Rattle.std.specs.Str.{chars}
use denote.Text.{Utf8}
use denote.Shadow.{shadow}
use Rattle.bib_chunks.specs.declared.chunk.Chunk.{Chunk}
use Rattle.bib_text.specs.declared.spanned.Spanned.{Spanned}
use Rattle.bib_chunks.specs.Cuts.{pieces_between, joined_parts}
use Rattle.bib_chunks.specs.Cutting.{all_parts, between_cuts, width}
use Rattle.bib_chunks.proofs.chunk.cuts.cut_text.Given as goal

-- the parts so far, continued by the pieces of the rest, are the initial parts, continued by the pieces of the whole
-- text
abbrev pub invariant-pieces : goal.invariant-pieces
invariant-pieces l = record {
  utf8 : shadow (Utf8 l.rest);
  within : length l.rest ≤ length l.whole;
  so_far : (following : List (List (Spanned Chunk)))
      → all_parts l.parts
      (joined_parts
      (pieces_between (width l.separator) l.whole l.span (length l.whole - length l.rest) l.following
      (between_cuts l.separator (chars l.rest))) following)
      ≡ all_parts l.initial.parts
      (joined_parts
      (pieces_between (width l.separator) l.whole l.span 0 false (between_cuts l.separator (chars l.whole)))
      following);
}

abbrev pub decreases-pieces : goal.decreases-pieces
decreases-pieces l = length l.rest
