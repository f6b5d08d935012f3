use Rattle.std.proofs.Common.{sym, ap, ◌∙◌}
use Rattle.std.specs.Prelude.{unwrap_or}
use Rattle.bib_text.proofs.EnumFacts.{named_none}
use Rattle.bib_tables.specs.Dialects.{biblatex_name}
use Rattle.edit_resolve.specs.Inheritance.{biber_names}
use Rattle.edit_resolve.proofs.inheritance.biber_name.Goals as goal

pub returns-in_default : goal.returns-in_default
returns-in_default c =
    c.biblatex_name.ensures
    ∙ sym
    (ap (λ found. unwrap_or found (biblatex_name c.args.lower.now))
    (named_none biber_names c.args.lower.now (
      c.in_default.not-annote,
      (
        c.in_default.not-archiveprefix,
        (
          c.in_default.not-primaryclass,
          (c.in_default.not-hyphenation, (c.in_default.not-key, (c.in_default.not-pdf, tt))),
        ),
      ),
    )))
