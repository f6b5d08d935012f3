use Rattle.std.proofs.Common.{◌∙◌, ◌<◌, ◌∷◌, [], sym}
use borrow.Author.Tests.{ltb-true}
use Rattle.bib_text.proofs.TextFacts.{pushed_chars, encode_one, two_parts}
use Rattle.bib_contents.proofs.CommandFacts.{composes, stays_apart}
use Rattle.bib_contents.proofs.commands.write_marked_letter.Goals as goal

pub returns-in_default : goal.returns-in_default
returns-in_default c =
    let ascii : c.args.letter < 128 = ltb-true _ _ (sym c.is_ascii.ensures ∙ c.if-not-is_ascii.false) in
    rw (stays_apart c.args.letter c.args.mark ascii c.requires (sym c.compose.ensures ∙ c.in_default.is))
    (two_parts _ _ _ (c.args.letter ∷ []) (c.args.mark ∷ [])
    (pushed_chars _ _ _ _ (c.args.letter ∷ []) c.in_ok-push.was c.push.ensures.bytes (encode_one c.args.letter))
    (pushed_chars _ _ _ _ (c.args.mark ∷ []) c.in_ok-push-2.was c.push-in_default.ensures.bytes (encode_one c.args.mark)))

pub returns : goal.returns
returns c =
    let ascii : c.args.letter < 128 = ltb-true _ _ (sym c.is_ascii.ensures ∙ c.if-not-is_ascii.false) in
    rw (composes c.args.letter c.args.mark c.in-Some.composed ascii c.requires (sym c.compose.ensures ∙ c.in-Some.is))
    (pushed_chars _ _ _ _ (c.in-Some.composed ∷ []) c.in_ok-push-3.was c.push-2.ensures.bytes (encode_one c.in-Some.composed))
