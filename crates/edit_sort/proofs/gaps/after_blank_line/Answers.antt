use Rattle.std.proofs.Common.{rules, ◌≡◌, ◌+◌, ◌<◌, List, ℕ, Option, length, ap, arith, length-drop, subst}
use Rattle.std.specs.Prelude.{MatchOption}
use Rattle.std.specs.Borrow.{Bor}
use Rattle.std.specs.List.{after_first, before_first, position_or_len}
use Rattle.std.proofs.lemmas.Str.Pattern.{split_once_first}
use Rattle.edit_sort.specs.Sorted.{is_feed}
use Rattle.edit_sort.proofs.LineFacts.{seen_all, seen_more, seen_none}
use Rattle.edit_sort.proofs.gaps.after_blank_line.Goals as goal

abbrev Found : List ℕ → Option (Bor (List ℕ) × Bor (List ℕ)) → Type 0
Found text r = MatchOption r (position_or_len is_feed text ≡ length text)
    (λ x. (position_or_len is_feed text < length text) × (x.0.now ≡ before_first is_feed text) × (x.1.now ≡ after_first is_feed text))

pub lines-init : goal.lines-init
lines-init c = record { kept_text = search rules; rest_text = search rules; seen = seen_none c.args.gap.now }

pub lines-preserved : goal.lines-preserved
lines-preserved c =
    let found =
    subst (Found c.lines.rest.now) c.in-Some.is
    (split_once_first 10 c.lines.rest.now c.split_once.result c.split_once.ensures.cases (omega arith)) in
    record {
      kept_text = c.kept_after-kept.utf8;
      rest_text = search rules;
      seen =
          seen_more c.args.gap.now c.lines.kept.now c.lines.rest.now c.in-Some.line.now c.in-Some.after.now
          c.kept_after-kept.result.now found.0 found.1 found.2 c.kept_after-kept.ensures c.lines.invariant.seen;
    }

pub lines-smaller : goal.lines-smaller
lines-smaller c =
    let text = c.lines.rest.now in
    let found = subst (Found text) c.in-Some.is (split_once_first 10 text c.split_once.result c.split_once.ensures.cases (omega arith)) in
    omega (arith, found.0, ap length found.2, length-drop (position_or_len is_feed text + 1) text)

pub returns : goal.returns
returns c =
    let found =
    subst (Found c.lines.rest.now) c.in_default.is
    (split_once_first 10 c.lines.rest.now c.split_once.result c.split_once.ensures.cases (omega arith)) in
    seen_all c.args.gap.now c.lines.kept.now c.lines.rest.now found c.lines.invariant.seen
