use Rattle.std.specs.Prelude.{codes}
use Rattle.std.proofs.lemmas.Str.Pattern.{ends_text}
use Rattle.bib_queries.proofs.sources.ends_with_bib.Goals as goal

pub returns : goal.returns
returns c = ends_text c.ends_with.result (codes ".bib") c.args.name.now c.ends_with.ensures.cases
