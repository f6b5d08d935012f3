use Rattle.std.proofs.Common.{sym}
use Rattle.bib_tables.specs.Pagination.{paginations}
use Rattle.bib_text.proofs.EnumFacts.{named_none}
use Rattle.bib_tables.proofs.types.Pagination.from_name.Goals as goal

pub returns-in_default : goal.returns-in_default
returns-in_default c =
    sym (named_none paginations c.args.text.now (
      c.in_default.not-page,
      (
        c.in_default.not-column,
        (
          c.in_default.not-line,
          (c.in_default.not-verse, (c.in_default.not-section, (c.in_default.not-paragraph, tt))),
        ),
      ),
    ))
