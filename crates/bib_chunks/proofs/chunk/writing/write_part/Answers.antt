use Rattle.std.proofs.Common.{◌∙◌}
use Rattle.bib_chunks.specs.Written.{lead, written_chunk, trail}
use Rattle.bib_text.proofs.TextFacts.{pushed_chars, three_parts}
use Rattle.bib_chunks.proofs.WrittenFacts.{lead_bytes, trail_bytes}
use Rattle.bib_chunks.proofs.chunk.writing.write_part.Goals as goal

pub returns : goal.returns
returns c =
    three_parts _ _ _ _ (lead c.args.is_open c.args.chunk.now) (written_chunk c.args.chunk.now c.args.is_verbatim) (trail c.args.chunk.now)
    (pushed_chars _ _ _ _ (lead c.args.is_open c.args.chunk.now) c.in_ok-push_str.was c.push_str.ensures.bytes
    (c.lead.ensures ∙ lead_bytes _ _))
    c.in_ok-write_chunk.ensures
    (pushed_chars _ _ _ _ (trail c.args.chunk.now) c.in_ok-push_str-2.was c.push_str-2.ensures.bytes (c.trail.ensures ∙ trail_bytes _))
