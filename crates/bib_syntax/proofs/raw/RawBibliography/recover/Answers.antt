use Rattle.std.proofs.lemmas.Str.{IsCharBoundary-start}
use Rattle.bib_syntax.proofs.raw.RawBibliography.recover.Goals as goal

pub recover-requires : goal.recover-requires
recover-requires c = IsCharBoundary-start c.args.src.now c.utf8.src
