use Rattle.std.proofs.Common.{◌≡◌, ◌++◌, take}
use Rattle.std.specs.List.{flat_map}
use Rattle.bib_csl.specs.Json.{name_json}
use Rattle.bib_csl.specs.Tokens.{tokens_of}
use Rattle.bib_csl.proofs.writing.write_each_name.Given as goal

abbrev pub invariant-names : goal.invariant-names
invariant-names l =
    (l.out.tokens ≡ l.initial.out.tokens ++ flat_map (λ x. tokens_of (name_json x)) (take l.name-index l.names))
    × (l.out.before ≡ l.initial.out.before)
