use Rattle.std.proofs.Common.{◌∷◌, [], sym}
use Rattle.std.specs.Str.{chars}
use Rattle.std.proofs.lemmas.Str.{encodes-chars}
use Rattle.bib_text.proofs.TextFacts.{pushed_chars, encode_one, three_parts}
use Rattle.bib_contents.proofs.commands.Effect.begin.Goals as goal

pub returns-in_ok-push-in-Unknown-2 : goal.returns-in_ok-push-in-Unknown-2
returns-in_ok-push-in-Unknown-2 c =
    rw c.in-Unknown.is (three_parts _ _ _ _ (92 ∷ []) (chars c.args.name.now) (123 ∷ [])
    (pushed_chars _ _ _ _ (92 ∷ []) c.in_ok-push-in-Unknown.was c.push-in-Unknown.ensures.bytes (encode_one 92))
    (pushed_chars _ _ _ _ (chars c.args.name.now) c.in_ok-push_str-in-Unknown.was c.push_str.ensures.bytes
    (sym (encodes-chars _ c.utf8.name)))
    (pushed_chars _ _ _ _ (123 ∷ []) c.in_ok-push-in-Unknown-2.was c.push-in-Unknown-2.ensures.bytes (encode_one 123)))
