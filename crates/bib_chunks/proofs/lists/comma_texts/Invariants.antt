use Rattle.std.proofs.Common.{◌≡◌, false, map, take}
use Rattle.std.specs.Prelude.{encode_utf8_all}
use Rattle.bib_chunks.specs.Cuts.{comma_list}
use Rattle.bib_chunks.specs.Formatted.{formatted_atoms}
use Rattle.bib_chunks.specs.Styled.{styled}
use Rattle.bib_chunks.specs.Lists.{chunks_of}
use Rattle.bib_chunks.proofs.lists.comma_texts.Given as goal

-- the parts so far are formatted
abbrev pub invariant-parts : goal.invariant-parts
invariant-parts l = record {
  parts : l.part-items ≡ comma_list (chunks_of (styled l.chunks));
  texts : l.texts.items ≡ map (λ part. encode_utf8_all (formatted_atoms false (styled part))) (take l.part-index l.part-items);
}
