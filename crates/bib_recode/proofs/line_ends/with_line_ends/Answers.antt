use Rattle.std.proofs.Common.{◌∙◌, sym, ap, ◌++◌, append_assoc}
use Rattle.std.specs.Prelude.{false}
use Rattle.std.proofs.lemmas.List.{map-id}
use Rattle.std.proofs.lemmas.Iterator.{YieldsList-from_chars}
use Rattle.std.proofs.lemmas.Iterator.Consumers.{YieldsList-end}
use Rattle.bib_recode.specs.LineEnds.{ended_after, ended_bytes, mark_if, with_line_ends}
use Rattle.bib_recode.proofs.LineEndFacts.{ended_push, return_push}
use Rattle.bib_recode.proofs.line_ends.with_line_ends.Goals as goal

pub chars-preserved : goal.chars-preserved
chars-preserved c =
    let ends = c.args.ends in
    let mark = mark_if c.args.has_mark in
    let done = c.chars.yielded in
    record {
      ended =
          c.in_ok-push_ended.ensures ∙ ap (λ t. t ++ ended_bytes ends c.chars.is_after_return c.in-Some.c) c.chars.invariant.ended
          ∙ append_assoc mark (ended_after ends false done) (ended_bytes ends c.chars.is_after_return c.in-Some.c)
          ∙ ap (λ b. mark ++ (ended_after ends false done ++ ended_bytes ends b c.in-Some.c)) c.chars.invariant.flag
          ∙ sym (ap (λ t. mark ++ t) (ended_push ends false done c.in-Some.c));
      flag = sym (return_push false done c.in-Some.c);
    }

pub returns : goal.returns
returns c =
    let all =
    YieldsList-end (YieldsList-from_chars c.args.text.now c.utf8.text cc) c.chars.yielded _ c.chars.yielded_by _ _
    c.in-None.is c.next.ensures.steps in
    c.chars.invariant.ended ∙ ap (λ cs. mark_if c.args.has_mark ++ with_line_ends c.args.ends cs) (sym (map-id c.chars.yielded) ∙ all.0)
