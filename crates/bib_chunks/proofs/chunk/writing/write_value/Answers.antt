use Rattle.std.proofs.Common.{◌∷◌, [], false}
use Rattle.bib_chunks.specs.Written.{written_chunks}
use Rattle.bib_text.proofs.TextFacts.{pushed_chars, encode_one, three_parts}
use Rattle.bib_chunks.proofs.chunk.writing.write_value.Goals as goal

pub returns : goal.returns
returns c =
    three_parts _ _ _ _ (123 ∷ []) (written_chunks c.args.is_verbatim false c.args.chunks.now) (125 ∷ [])
    (pushed_chars _ _ _ _ (123 ∷ []) c.in_ok-push.was c.push.ensures.bytes (encode_one 123))
    c.in_ok-write_parts.ensures
    (pushed_chars _ _ _ _ (125 ∷ []) c.in_ok-push-2.was c.push-2.ensures.bytes (encode_one 125))
