use Rattle.std.proofs.Common.{◌≡◌, take, map}
use Rattle.bib_values.specs.Enumerations.{language_read}
use Rattle.bib_values.specs.Permissive.{permissive}
use Rattle.bib_typed.specs.Typed.{permissive_meaning}
use Rattle.bib_typed.proofs.lists.VecPermissiveTypeLanguageType.from_chunks.Given as goal

abbrev pub invariant-parts : goal.invariant-parts
invariant-parts l =
    map (permissive_meaning (λ language. language)) l.languages.items
    ≡ map (λ part. permissive (language_read part) part) (take l.part-index l.part-items)
