use Rattle.std.proofs.Common.{◌≡◌, take, map}
use Rattle.bib_values.specs.Enumerations.{language_written}
use Rattle.bib_values.specs.Permissive.{permissive_written}
use Rattle.bib_typed.specs.Typed.{permissive_meaning}
use Rattle.bib_typed.proofs.lists.VecPermissiveTypeLanguageType.to_chunks.Given as goal

abbrev pub invariant-languages : goal.invariant-languages
invariant-languages l =
    l.parts.items
    ≡ map (permissive_written language_written)
    (map (permissive_meaning (λ language. language)) (take l.language-index l.self.items))
