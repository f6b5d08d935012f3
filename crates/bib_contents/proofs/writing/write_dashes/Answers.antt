use Rattle.std.proofs.Common.{◌≡◌, ap, ◌∙◌, ◌++◌, ◌∷◌, [], ◌/◌, replicate, arith}
use Rattle.std.specs.Prelude.{string_bytes, encode_utf8_all}
use Rattle.std.proofs.lemmas.List.{replicate_more}
use Rattle.bib_text.proofs.TextFacts.{pushed_chars, encode_one, two_parts}
use Rattle.bib_contents.proofs.writing.write_dashes.Goals as goal

pub threes-preserved : goal.threes-preserved
threes-preserved c =
    two_parts _ _ _ (replicate c.threes.counter 8212) (8212 ∷ []) c.threes.invariant
    (pushed_chars _ _ _ _ (8212 ∷ []) c.in_ok-push.was c.push.ensures.bytes (encode_one 8212))
    ∙ ap (λ xs. string_bytes c.args.text.now ++ encode_utf8_all xs) (replicate_more c.threes.counter 8212)

pub returns-in_ok-push-in-2 : goal.returns-in_ok-push-in-2
returns-in_ok-push-in-2 c =
    let all : c.threes.counter ≡ c.args.count / 3 = omega (arith, c.threes-test.false, c.threes.auto.counter-end) in
    rw (c.in-2.is, ← all)
    (two_parts _ _ _ (replicate c.threes.counter 8212) (8211 ∷ []) c.threes.invariant
    (pushed_chars _ _ _ _ (8211 ∷ []) c.in_ok-push-in-2.was c.push-in-2.ensures.bytes (encode_one 8211)))

pub returns-in_ok-push-in-1 : goal.returns-in_ok-push-in-1
returns-in_ok-push-in-1 c =
    let all : c.threes.counter ≡ c.args.count / 3 = omega (arith, c.threes-test.false, c.threes.auto.counter-end) in
    rw (c.in-1.is, ← all)
    (two_parts _ _ _ (replicate c.threes.counter 8212) (45 ∷ []) c.threes.invariant
    (pushed_chars _ _ _ _ (45 ∷ []) c.in_ok-push-in-1.was c.push-in-1.ensures.bytes (encode_one 45)))
