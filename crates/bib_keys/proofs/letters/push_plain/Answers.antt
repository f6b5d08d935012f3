use Rattle.std.proofs.Common.{◌++◌, ◌∙◌, ap, append_assoc, sym}
use Rattle.std.specs.Prelude.{string_bytes}
use Rattle.bib_keys.specs.Letters.{for_small}
use Rattle.bib_keys.proofs.WordFacts.{plain_letters}
use Rattle.bib_keys.proofs.letters.push_plain.Goals as goal

pub returns : goal.returns
returns c =
    let out = string_bytes c.args.out.now in
    let small = c.for_small.result.now in
    let capital = c.for_capital.result.now in
    c.in_ok-push_str-2.ensures.bytes ∙ ap (λ l. l ++ capital) c.in_ok-push_str.ensures.bytes ∙ append_assoc out small capital
    ∙ ap (λ l. out ++ (l ++ capital)) c.for_small.ensures ∙ ap (λ l. out ++ (for_small c.args.c ++ l)) c.for_capital.ensures
    ∙ ap (λ l. out ++ l)
    (plain_letters c.args.c (sym c.is_ascii_alphanumeric.ensures.value ∙ c.if-is_ascii_alphanumeric.false)
    (sym c.is_word_gap.ensures ∙ c.if-is_word_gap.false))
