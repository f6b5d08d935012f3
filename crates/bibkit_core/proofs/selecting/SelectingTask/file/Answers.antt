use Rattle.std.proofs.Common.{refl, subst}
use Rattle.std.specs.String.{string_bytes}
use Rattle.bibkit_core.specs.Selecting.{IsSelectedAnswer}
use Rattle.bibkit_core.specs.Skipped.{AddsSkipped}
use Rattle.bibkit_core.proofs.selecting.SelectingTask.file.Goals as goal

pub returns : goal.returns
returns c = (
  refl,
  (
    c.in_ok-answer.answer.has_entry,
    record {
      decoded = c.in_ok-decoded.decoded;
      of_bytes = c.in_ok-decoded.ensures;
      answer =
          subst
          (λ t. IsSelectedAnswer c.args.self.now.selected.now t (string_bytes c.in_ok-answer.answer.text) c.in_ok-answer.answer.has_entry)
          c.as_str-text.ensures.value c.in_ok-answer.ensures;
    },
    c.is_found_with-self.ensures,
  ),
  (
    c.in_ok-decoded.decoded,
    c.in_ok-decoded.ensures,
    subst (λ t. AddsSkipped c.args.self.now.skipped c.args.name.now t c.next.new.self) c.as_str-text.ensures.value c.in_ok-next.ensures,
  ),
)
