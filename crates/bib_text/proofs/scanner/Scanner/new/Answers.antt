use Rattle.std.proofs.lemmas.Str.{IsCharBoundary-start}
use Rattle.bib_text.proofs.scanner.Scanner.new.Goals as goal

pub invariant_of-result : goal.invariant_of-result
invariant_of-result c = (c.utf8.text, IsCharBoundary-start _ c.utf8.text)
