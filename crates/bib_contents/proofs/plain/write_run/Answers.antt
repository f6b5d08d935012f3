use Rattle.std.proofs.Common.{◌∷◌, [], sym, append-nil, ◌∙◌}
use Rattle.std.specs.Str.{chars}
use Rattle.bib_text.proofs.TextFacts.{pushed_chars, encode_one}
use Rattle.bib_contents.specs.Contents.{dashes, is_space}
use Rattle.bib_contents.proofs.PlainFacts.{escaped_next, spaces_next, reads_escaped, reads_same, reads_spaces, reads_hyphens}
use Rattle.bib_contents.proofs.ReaderFacts.{unit_shorter}
use Rattle.bib_contents.proofs.plain.write_run.Goals as goal

pub eat_while-requires-clause-is_test : goal.eat_while-requires-clause-is_test
eat_while-requires-clause-is_test c = (is_space, λ x r post. post)

pub returns-then-is_space-clause-read : goal.returns-then-is_space-clause-read
returns-then-is_space-clause-read c =
    let white = c.eat_while.ensures.longest is_space (λ x r post. post) in
    let one =
    spaces_next c.args.is_verbatim c.in-Some.c c.in-Some.ensures.0 (chars c.eat_while.result.now)
    c.in-Some.ensures.1 (sym c.is_space.ensures ∙ c.if-is_space.true) c.eat_while.ensures.passed white.0 white.1 in (
      32 ∷ [],
      reads_spaces one c.eat_while.ensures.passed,
      pushed_chars _ _ _ _ (32 ∷ []) c.in_ok-push.was c.push.ensures.bytes (encode_one 32),
    )

pub returns-then-is_space-clause-shorter : goal.returns-then-is_space-clause-shorter
returns-then-is_space-clause-shorter c found =
    let white = c.eat_while.ensures.longest is_space (λ x r post. post) in
    (unit_shorter
    (spaces_next c.args.is_verbatim c.in-Some.c c.in-Some.ensures.0 (chars c.eat_while.result.now)
    c.in-Some.ensures.1 (sym c.is_space.ensures ∙ c.if-is_space.true) c.eat_while.ensures.passed white.0 white.1)).0

pub returns-then-c-eq45-clause-read : goal.returns-then-c-eq45-clause-read
returns-then-c-eq45-clause-read c =
    let count = c.hyphens-count.result in (
      dashes count,
      reads_hyphens c.args.is_verbatim count c.in-Some.ensures.1 c.if-c-eq45.true c.hyphens-count.ensures.passed.1
          c.hyphens-count.ensures.spelt c.hyphens-count.ensures.whole,
      c.in_ok-write_dashes.ensures,
    )

pub returns-in_default-eat_escaped-clause-read : goal.returns-in_default-eat_escaped-clause-read
returns-in_default-eat_escaped-clause-read c = ([], reads_same c.in_default-eat_escaped.ensures, sym (append-nil _))

pub returns-clause-read : goal.returns-clause-read
returns-clause-read c =
    let e = c.in-Some-eat_escaped.escaped in
    let did = c.in-Some-eat_escaped.ensures in (
      e ∷ [],
      reads_escaped (escaped_next c.args.is_verbatim e did.0 did.1) did.0,
      pushed_chars _ _ _ _ (e ∷ []) c.in_ok-push-2.was c.push-2.ensures.bytes (encode_one e),
    )

pub returns-clause-shorter : goal.returns-clause-shorter
returns-clause-shorter c found =
    let did = c.in-Some-eat_escaped.ensures in
    (unit_shorter (escaped_next c.args.is_verbatim c.in-Some-eat_escaped.escaped did.0 did.1)).0
