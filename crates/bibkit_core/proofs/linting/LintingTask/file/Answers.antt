use Rattle.std.proofs.Common.{ap, ◌∙◌}
use Rattle.std.specs.String.{string_bytes}
use Rattle.bibkit_core.specs.Tasks.{in_file}
use Rattle.bibkit_core.proofs.linting.LintingTask.file.Goals as goal

pub returns : goal.returns
returns c =
    let found = string_bytes c.in_ok-text.text in (
      c.in_ok-text.ensures.lint,
      (
        found,
        c.in_ok-text.ensures.printed,
        c.in_ok-output.ensures ∙ ap (λ l. in_file l.style c.args.name.now found) c.in_ok-text.ensures.lint,
      ),
    )
