use Rattle.std.proofs.Common.{◌∷◌, [], sym}
use Rattle.std.specs.Str.{chars}
use Rattle.std.proofs.lemmas.Str.{encodes-chars}
use Rattle.bib_text.proofs.TextFacts.{pushed_chars, encode_one, three_parts}
use Rattle.bib_chunks.proofs.chunk.formatting.write_math.Goals as goal

pub returns : goal.returns
returns c =
    three_parts _ _ _ _ (36 ∷ []) (chars c.args.text.now) (36 ∷ [])
    (pushed_chars _ _ _ _ (36 ∷ []) c.in_ok-push.was c.push.ensures.bytes (encode_one 36))
    (pushed_chars _ _ _ _ (chars c.args.text.now) c.in_ok-push_str.was c.push_str.ensures.bytes (sym (encodes-chars _ c.utf8.text)))
    (pushed_chars _ _ _ _ (36 ∷ []) c.in_ok-push-2.was c.push-2.ensures.bytes (encode_one 36))
