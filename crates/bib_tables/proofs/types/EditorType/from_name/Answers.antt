use Rattle.std.proofs.Common.{sym}
use Rattle.bib_tables.specs.EditorType.{editor_types}
use Rattle.bib_text.proofs.EnumFacts.{named_none}
use Rattle.bib_tables.proofs.types.EditorType.from_name.Goals as goal

pub returns-in_default : goal.returns-in_default
returns-in_default c =
    sym (named_none editor_types c.args.text.now (
      c.in_default.not-editor,
      (
        c.in_default.not-compiler,
        (
          c.in_default.not-founder,
          (
            c.in_default.not-continuator,
            (
              c.in_default.not-redactor,
              (
                c.in_default.not-reviser,
                (
                  c.in_default.not-collaborator,
                  (c.in_default.not-organizer, (c.in_default.not-director, tt)),
                ),
              ),
            ),
          ),
        ),
      ),
    ))
