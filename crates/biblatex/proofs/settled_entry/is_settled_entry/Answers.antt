use Rattle.std.proofs.Common.{refl}
use Rattle.std.proofs.lemmas.Bool.{false≢true}
use Rattle.biblatex.proofs.SettledFacts.{never, fields_after, field_not}
use Rattle.biblatex.proofs.settled_entry.is_settled_entry.Goals as goal

pub returns-then-not-is_settled_field : goal.returns-then-not-is_settled_field
returns-then-not-is_settled_field c =
    never
    (field_not c.fields.invariant.2 c.in-Some.ensures.steps
    (λ settled.
    false≢true (c.if-not-is_settled_field.ensures.1 (rw (c.as_str.ensures, c.as_slice.ensures) settled))))

pub fields-preserved : goal.fields-preserved
fields-preserved c = (
  tt,
  tt,
  fields_after c.fields.invariant.2 c.in-Some.ensures.steps
      (rw (c.as_str.ensures, c.as_slice.ensures) at (c.if-not-is_settled_field.ensures.0 refl)),
)
