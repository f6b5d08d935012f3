use Rattle.std.proofs.Common.{◌≡◌, ◌∙◌, ◌∷◌, [], ◌++◌, ap, encode_utf8_all}
use Rattle.std.specs.Str.{chars}
use Rattle.unicode_normalization.specs.Forms.{nfc}
use Rattle.bib_text.proofs.TextFacts.{pushed_chars, encode_one, two_parts, chars_whole}
use Rattle.bib_contents.proofs.commands.write_composed.Goals as goal

pub returns : goal.returns
returns c =
    let both =
    two_parts _ _ _ (c.args.letter ∷ []) (c.args.mark ∷ [])
    (pushed_chars _ _ _ _ (c.args.letter ∷ []) c.in_ok-push.was c.push.ensures.bytes (encode_one c.args.letter))
    (pushed_chars _ _ _ _ (c.args.mark ∷ []) c.in_ok-push-2.was c.push-2.ensures.bytes (encode_one c.args.mark)) in
    let pair : chars c.as_str.result.now ≡ c.args.letter ∷ c.args.mark ∷ [] =
    chars_whole (c.args.letter ∷ c.args.mark ∷ []) c.as_str.result.now c.as_str.utf8
    (c.as_str.ensures.value ∙ both ∙ ap (λ bs. bs ++ encode_utf8_all (c.args.letter ∷ c.args.mark ∷ [])) c.new-pair.ensures.bytes) in
    pushed_chars _ _ _ _ (nfc (c.args.letter ∷ c.args.mark ∷ [])) c.in_ok-push_str.was c.push_str.ensures.bytes
    (c.as_str-2.ensures.value ∙ c.in_ok-composed.ensures ∙ ap (λ cs. encode_utf8_all (nfc cs)) pair)
