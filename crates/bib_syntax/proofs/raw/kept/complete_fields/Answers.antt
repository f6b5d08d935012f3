use Rattle.std.proofs.lemmas.List.{map-append}
use Rattle.bib_text.proofs.PlaceFacts.{ahead_then, left_smaller, stops_without}
use Rattle.bib_syntax.specs.Grammar.{Field, longest}
use Rattle.bib_syntax.specs.Views.{field_of}
use Rattle.bib_syntax.proofs.FieldFacts.{ahead_field}
use Rattle.bib_syntax.proofs.KeptFacts.{ahead_comments, none_so_far, kept_more, kept_last, kept_all}
use Rattle.bib_syntax.proofs.raw.kept.complete_fields.Goals as goal
use Rattle.bib_syntax.proofs.raw.kept.complete_fields.Goals.{In-Some}

-- the field that was parsed last
one : (c : In-Some) → Field longest c.fields.s (field_of c.in-Some.pair) c.complete_field.new.s
one c = rw c.in-Some.is at c.in_ok-pair.ensures

pub fields-init : goal.fields-init
fields-init c = rw c.new-pairs.ensures.items (none_so_far c.args.s.now)

pub fields-smaller : goal.fields-smaller
fields-smaller c =
    left_smaller (ahead_then (ahead_field (one (goal.at.fields-smaller c).In-Some)) (ahead_comments c.comments.ensures))
    c.if-not-eat_if.ensures (ahead_comments c.comments-in-Some.ensures)

pub fields-preserved : goal.fields-preserved
fields-preserved c =
    rw (c.in_ok-push.ensures.items, map-append field_of c.fields.pairs.items _)
    (kept_more _ c.fields.invariant (one (goal.at.fields-preserved c).In-Some) c.comments.ensures c.if-not-eat_if.ensures
    c.comments-in-Some.ensures)

pub returns-then-not-eat_if : goal.returns-then-not-eat_if
returns-then-not-eat_if c =
    rw (c.if-not-eat_if.ensures.0, c.in_ok-push.ensures.items, map-append field_of c.fields.pairs.items _)
    (kept_last _ c.fields.invariant (one (goal.at.returns-then-not-eat_if c).In-Some) c.comments.ensures
    (stops_without 44 c.if-not-eat_if.ensures.1))

pub returns : goal.returns
returns c =
    let none = rw c.in_default.is at c.in_ok-pair.ensures in
    rw none.0 (kept_all c.fields.invariant none.1)
