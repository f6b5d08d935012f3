use Rattle.std.proofs.Common.{◌≡◌, suc, ◌++◌, ◌+◌, ap, sym, ◌∙◌, append_assoc, arith}
use Rattle.std.specs.String.{string_bytes}
use Rattle.std.proofs.lemmas.List.{append-nil}
use Rattle.edit_format.specs.Formatted.{line_ends}
use Rattle.edit_format.proofs.GapFacts.{one_more}
use Rattle.edit_format.proofs.gaps.push_line_ends.Goals as goal

pub lines-init : goal.lines-init
lines-init c = record { written = sym (append-nil (string_bytes c.args.new.now)); within = omega arith }

pub lines-preserved : goal.lines-preserved
lines-preserved c = record {
  written = c.in_ok-push_str.ensures.bytes ∙ ap (λ t. t ++ c.args.line_end.now) c.lines.invariant.written
      ∙ append_assoc (string_bytes c.args.new.now) (line_ends c.args.line_end.now c.lines._written) c.args.line_end.now
      ∙ ap (λ t. string_bytes c.args.new.now ++ t) (one_more c.args.line_end.now c.lines._written)
      ∙
      (let next : suc c.lines._written ≡ c.lines._written + 1 = omega arith in
      ap (λ n. string_bytes c.args.new.now ++ line_ends c.args.line_end.now n) next);
  within = omega arith;
}

pub returns : goal.returns
returns c =
    let all : c.lines._written ≡ c.args.count = omega arith in
    c.lines.invariant.written ∙ ap (λ n. string_bytes c.args.new.now ++ line_ends c.args.line_end.now n) all
