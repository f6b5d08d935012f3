use Rattle.std.proofs.Common.{ap}
use Rattle.bib_syntax.specs.declared.raw.ParseError.{ParseError}
use Rattle.bib_syntax.specs.declared.raw.ParseErrorKind.TheVariants.{DuplicateKey}
use Rattle.bib_file_entries.proofs.reading.duplicate.Goals as goal

pub returns : goal.returns
returns c = ap (λ key. let e : ParseError = record { span = c.args.raw.now.span; kind = DuplicateKey key } in e) c.in_ok-key.ensures
