use Rattle.std.proofs.Common.{◌≡◌, map}
use Rattle.bib_queries.specs.Texts.{text_list}
use Rattle.bib_queries.proofs.SourceFacts.{NameNothing}
use Rattle.bib_queries.proofs.sources.first_data.Given as goal

abbrev pub invariant-lines : goal.invariant-lines
invariant-lines l = (text_list l.names ≡ text_list l.initial.names) × NameNothing (map (λ line. line.now) l.yielded)
