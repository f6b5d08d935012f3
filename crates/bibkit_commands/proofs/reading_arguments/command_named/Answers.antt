use Rattle.std.proofs.Common.{ap, sym}
use Rattle.std.specs.Prelude.{unwrap_or}
use Rattle.bib_text.proofs.EnumFacts.{named_none}
use Rattle.bibkit_commands.specs.Commands.{commands}
use Rattle.bibkit_commands.specs.declared.reading_arguments.ReadingCommand.TheVariants.{Keys}
use Rattle.bibkit_commands.proofs.reading_arguments.command_named.Goals as goal

pub returns-in_default : goal.returns-in_default
returns-in_default c =
    let isnt = c.in_default in
    ap (λ found. unwrap_or found Keys)
    (sym (named_none commands c.args.name.now (
      isnt.not-lint,
      (
        isnt.not-fmt,
        (
          isnt.not-convert,
          (
            isnt.not-resolve,
            (
              isnt.not-get,
              (
                isnt.not-grep,
                (
                  isnt.not-cited,
                  (isnt.not-select, (isnt.not-stats, (isnt.not-diff, (isnt.not-merge, tt)))),
                ),
              ),
            ),
          ),
        ),
      ),
    )))
