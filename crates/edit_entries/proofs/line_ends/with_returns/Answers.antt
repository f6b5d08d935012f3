use Rattle.std.proofs.Common.{◌++◌, ap, sym, ◌∙◌}
use Rattle.std.specs.Prelude.{encode_utf8_all, string_bytes}
use Rattle.std.proofs.lemmas.List.{map-id}
use Rattle.std.proofs.lemmas.Iterator.{YieldsList-from_chars}
use Rattle.std.proofs.lemmas.Iterator.Consumers.{YieldsList-end}
use Rattle.edit_entries.specs.LineEnds.{with_return, with_returns}
use Rattle.edit_entries.proofs.LineEndFacts.{encoded_push, last_of, last_push}
use Rattle.edit_entries.proofs.line_ends.with_returns.Goals as goal

pub text-preserved : goal.text-preserved
text-preserved c =
    let cs = c.text.yielded in
    let ch = c.in-Some.c in (
      c.in_ok-push.ensures.bytes ∙ c.in_ok-push_return.ensures
          ∙ ap (λ b. string_bytes c.text.new ++ encode_utf8_all (with_return b ch)) c.text.invariant.1
          ∙ ap (λ t. t ++ encode_utf8_all (with_return (last_of 32 cs) ch)) c.text.invariant.0 ∙ sym (encoded_push 32 cs ch),
      sym (last_push 32 cs ch),
    )

pub returns : goal.returns
returns c =
    let t =
    YieldsList-end (YieldsList-from_chars c.args.text.now c.utf8.text cc) c.text.yielded _ c.text.yielded_by _ _
    c.in-None.is c.next.ensures.steps in
    c.text.invariant.0 ∙ ap (λ cs. encode_utf8_all (with_returns 32 cs)) (sym (map-id c.text.yielded) ∙ t.0)
