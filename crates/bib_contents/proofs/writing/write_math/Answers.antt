use Rattle.std.proofs.Common.{◌∷◌, []}
use Rattle.std.specs.Str.{chars}
use Rattle.bib_text.proofs.TextFacts.{pushed_chars, encode_one}
use Rattle.bib_contents.specs.Arguments.{flat_if}
use Rattle.bib_contents.proofs.EffectFacts.{between_dollars}
use Rattle.bib_contents.proofs.writing.write_math.Goals as goal

pub returns : goal.returns
returns c = between_dollars (flat_if c.args.is_flat (chars c.args.math.now)) _ _ _ _
    (pushed_chars _ _ _ _ (36 ∷ []) c.in_ok-push.was c.push.ensures.bytes (encode_one 36)) c.in_ok-write_flat_if.ensures
    (pushed_chars _ _ _ _ (36 ∷ []) c.in_ok-push-2.was c.push-2.ensures.bytes (encode_one 36))
