use Rattle.std.specs.Char.{is_ascii_digit}
use Rattle.bib_syntax.proofs.WordFacts.{passes_cases}
use Rattle.bib_syntax.proofs.raw.words.begins_number.Goals as goal

pub returns-in-Some : goal.returns-in-Some
returns-in-Some c = passes_cases is_ascii_digit _ c.in-Some.ensures.1 c.is_digit.ensures
