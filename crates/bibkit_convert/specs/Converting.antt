-- Machinery: words of private contracts.
-- The errors of converting a text that can't be parsed.
use Rattle.bib_syntax.specs.declared.raw.ParseError.{ParseError}
use Rattle.bib_syntax.specs.declared.raw.ParseErrorKind.{ParseErrorKind}
use Rattle.bib_syntax.specs.declared.raw.ParseErrorKind.TheVariants as kind
use Rattle.bibkit_convert.specs.declared.converting.ConvertError.{ConvertError}
use Rattle.bibkit_convert.specs.declared.converting.ConvertError.TheVariants.{File, OutOfMemory}

-- the error for this kind of parse error: out of memory if that is the kind, and otherwise `error`
abbrev pub unless_of_memory : ParseErrorKind → ConvertError → ConvertError
unless_of_memory kind.OutOfMemory error = OutOfMemory
unless_of_memory _ error = error

-- the error of converting a text that fails to parse with this error
abbrev pub file_error : ParseError → ConvertError
file_error e = unless_of_memory e.kind (File e)
