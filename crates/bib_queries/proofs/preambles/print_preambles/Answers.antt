use Rattle.std.proofs.Common.{◌∙◌, sym, ap}
use Rattle.std.specs.Option.{option_map}
use Rattle.std.specs.String.{string_bytes}
use Rattle.bib_queries.proofs.PreambleFacts.{joint_smaller, left_first, left_last, left_next}
use Rattle.bib_queries.proofs.preambles.print_preambles.Goals as goal

pub preambles-init : goal.preambles-init
preambles-init c = record {
  utf8 = c.utf8.joined;
  left = λ insides are. left_first c.args.line_end.now c.args.joined.now (string_bytes c.args.printed.now) insides are;
}

pub preambles-smaller : goal.preambles-smaller
preambles-smaller c =
    joint_smaller c.preambles.rest.now c.in-Some.opened.now c.split_at.result.1.now c.after_joint-rest.result.now c.closing_quote.result
    (sym c.after_prefix.ensures ∙ ap (option_map (λ rest. rest.now)) c.in-Some.is) c.split_at.ensures.back c.after_joint-rest.ensures

pub preambles-preserved : goal.preambles-preserved
preambles-preserved c = record {
  utf8 = c.after_joint-rest.utf8;
  left = λ insides are.
      left_next c.args.line_end.now c.preambles.rest.now c.in-Some.opened.now c.split_at.result.0.now c.split_at.result.1.now
      c.after_joint-rest.result.now (string_bytes c.preambles.printed) (string_bytes c.print_preamble.new.printed) _ c.closing_quote.result
      (sym c.after_prefix.ensures ∙ ap (option_map (λ rest. rest.now)) c.in-Some.is) c.closing_quote.ensures.found
      c.split_at.ensures.front c.split_at.ensures.back c.after_joint-rest.ensures c.in_ok-print_preamble.ensures
      (c.preambles.invariant.left insides are);
}

pub returns : goal.returns
returns c = λ insides are.
    left_last c.args.line_end.now c.preambles.rest.now (string_bytes c.preambles.printed) _
    (sym c.after_prefix.ensures ∙ ap (option_map (λ rest. rest.now)) c.in_default.is) (c.preambles.invariant.left insides are)
