use Rattle.std.proofs.lemmas.Grind.{common_steps}
use Rattle.std.proofs.Common.{◌++◌, [], codes, cond, sym, ap, ◌∙◌, append_assoc, arith}
use Rattle.std.specs.String.{string_bytes}
use Rattle.std.proofs.lemmas.Str.Pattern.{ends_text}
use Rattle.bib_source.proofs.unified.push_line_after.Goals as goal

pub returns-in_ok-push_str-3 : goal.returns-in_ok-push_str-3
returns-in_ok-push_str-3 c =
    let old = string_bytes c.args.diff.now in
    let sign = c.args.sign.now in
    let line = c.args.line.now in
    let note = codes "\n\\ No newline at end of file\n" in
    c.in_ok-push_str-3.ensures.bytes
    ∙ ap (λ t. t ++ note) (c.in_ok-push_str-2.ensures.bytes ∙ ap (λ t. t ++ line) c.in_ok-push_str.ensures.bytes)
    ∙ append_assoc (old ++ sign) line note ∙ append_assoc old sign (line ++ note)
    ∙ ap (λ b. old ++ (sign ++ (line ++ cond b [] note)))
    (sym (sym (ends_text c.ends_with.result (codes "\n") line c.ends_with.ensures.cases) ∙ c.if-not-ends_with.true))

pub returns-else-not-ends_with : goal.returns-else-not-ends_with
returns-else-not-ends_with c = grind (arith, common_steps)
