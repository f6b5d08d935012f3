use Rattle.std.proofs.Common.{◌∷◌, [], arith}
use Rattle.std.proofs.lemmas.Str.{IsUtf8-string_bytes}
use Rattle.bib_text.proofs.TextFacts.{pushed_chars, encode_one}
use Rattle.bib_contents.proofs.EffectFacts.{marked_none, marked_after}
use Rattle.bib_contents.proofs.commands.mark_last.Goals as goal

pub returns-then-len-start : goal.returns-then-len-start
returns-then-len-start c base inside size is =
    marked_none base inside c.args.mark (c.bare.result ∷ []) _ _ size is (omega (arith, c.len.ensures, c.if-len-start.true)) c.bare.ensures
    (pushed_chars _ _ _ _ (c.bare.result ∷ []) c.in_ok-push.was c.push.ensures.bytes (encode_one c.bare.result))

pub returns : goal.returns
returns c base inside size is =
    marked_after base inside c.args.mark c.in-Some.last _ _ _ size (omega (arith, c.len.ensures, c.if-len-start.false))
    (IsUtf8-string_bytes c.args.out.now) (IsUtf8-string_bytes c.pop.new.self) is c.in-Some.ensures.bytes
    (rw c.letter.ensures at c.in_ok-write_marked_letter.ensures)
