use Rattle.std.proofs.Common.{ap}
use Rattle.bib_syntax.specs.declared.raw.ParseError.{ParseError}
use Rattle.bib_syntax.specs.declared.raw.ParseErrorKind.TheVariants.{UnknownAbbreviation}
use Rattle.bib_file_entries.proofs.keeping.unknown_abbreviation.Goals as goal

pub returns : goal.returns
returns c =
    ap (λ name. let e : ParseError = record { span = c.args.span.now; kind = UnknownAbbreviation name } in e)
    c.in_ok-name.ensures
