use Rattle.std.proofs.Common.{◌++◌, ◌∙◌, ap, append_assoc, sym}
use Rattle.std.specs.Prelude.{encode_utf8, string_bytes}
use Rattle.std.specs.Char.{to_ascii_uppercase}
use Rattle.bib_keys.proofs.WordFacts.{capital_is}
use Rattle.bib_keys.proofs.cases.push_capital.Goals as goal

pub returns : goal.returns
returns c =
    let out = string_bytes c.args.out.now in
    let rest = c.as_str.result.now in
    let first = c.in-Some.first in
    c.in_ok-push_str.ensures.bytes
    ∙ ap (λ l. l ++ rest) (c.in_ok-push.ensures.bytes ∙ ap (λ x. out ++ encode_utf8 x) c.to_ascii_uppercase.ensures.value)
    ∙ append_assoc out (encode_utf8 (to_ascii_uppercase first)) rest
    ∙ ap (λ l. out ++ l)
    (capital_is c.args.word.now rest first
    (sym c.chars-rest.ensures.rest ∙ c.in-Some.ensures.steps.0 ∙ ap (λ bs. encode_utf8 first ++ bs) (sym c.as_str.ensures)))
