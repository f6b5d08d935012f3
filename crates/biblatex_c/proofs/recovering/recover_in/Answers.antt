use Rattle.std.proofs.Common.{◌≡◌, ◌∙◌, rules, sym}
use Rattle.std.specs.Str.{IsUtf8}
use Rattle.std.proofs.lemmas.Result.{IfOk-weaker}
use Rattle.biblatex_c.proofs.TextFacts.{recovered_utf8, recovered_windows}
use Rattle.biblatex_c.proofs.recovering.recover_in.Goals as goal

pub returns-in-Ok-clause-text : goal.returns-in-Ok-clause-text
returns-in-Ok-clause-text c =
    let same : c.in-Ok.text.now ≡ c.args.bytes.now = search rules in
    let utf8 : IsUtf8 c.args.bytes.now = search rules in
    IfOk-weaker c.recovered_text.result _ _
    (λ text is.
    recovered_utf8 c.args.number c.in-Some.format c.args.bytes.now c.in-Ok.text.now _
    (sym c.from_number.ensures ∙ c.in-Some.is) same utf8 is) c.recovered_text.ensures.text

pub returns-in_ok-decoded-in-Err-clause-text : goal.returns-in_ok-decoded-in-Err-clause-text
returns-in_ok-decoded-in-Err-clause-text c =
    let other : IsUtf8 c.args.bytes.now → ⊥ = search rules in
    IfOk-weaker c.recovered_text-in-Err.result _ _ (λ text is. recovered_windows c.args.number c.in-Some.format
    c.args.bytes.now c.as_str.result.now _ (sym c.from_number.ensures ∙ c.in-Some.is) other
    (λ u. c.as_str.ensures.value ∙ (c.in_ok-decoded-in-Err.ensures.windows u).0) is) c.recovered_text-in-Err.ensures.text
