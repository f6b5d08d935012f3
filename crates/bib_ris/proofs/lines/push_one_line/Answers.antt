use Rattle.std.proofs.Common.{◌++◌, map, ap, sym, ◌∙◌, append_assoc}
use Rattle.std.proofs.lemmas.List.{map-id}
use Rattle.std.proofs.lemmas.Iterator.{YieldsList-from_chars}
use Rattle.std.proofs.lemmas.Iterator.Consumers.{YieldsList-end}
use Rattle.std.specs.Prelude.{encode_utf8, encode_utf8_all, string_bytes}
use Rattle.bib_ris.specs.Lines.{on_line}
use Rattle.bib_ris.proofs.LineFacts.{one_more}
use Rattle.bib_ris.proofs.lines.push_one_line.Goals as goal

pub text-preserved : goal.text-preserved
text-preserved c =
    let out = string_bytes c.args.out.now in
    let cs = c.text.yielded in
    let ch = c.in-Some.c in
    c.in_ok-push.ensures.bytes ∙ ap (λ x. string_bytes c.text.out ++ encode_utf8 x) c.unbroken.ensures
    ∙ ap (λ t. t ++ encode_utf8 (on_line ch)) c.text.invariant
    ∙ append_assoc out (encode_utf8_all (map on_line cs)) (encode_utf8 (on_line ch)) ∙ ap (λ t. out ++ t) (sym (one_more on_line cs ch))

pub returns : goal.returns
returns c =
    let t =
    YieldsList-end (YieldsList-from_chars c.args.text.now c.utf8.text cc) c.text.yielded _ c.text.yielded_by _ _
    c.in-None.is c.next.ensures.steps in
    c.text.invariant ∙ ap (λ cs. string_bytes c.args.out.now ++ encode_utf8_all (map on_line cs)) (sym (map-id c.text.yielded) ∙ t.0)
