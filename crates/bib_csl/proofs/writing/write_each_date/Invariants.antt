use Rattle.std.proofs.Common.{◌≡◌, ◌++◌, take}
use Rattle.std.specs.List.{flat_map}
use Rattle.bib_csl.specs.Json.{date_parts_json}
use Rattle.bib_csl.specs.Tokens.{tokens_of}
use Rattle.bib_csl.proofs.writing.write_each_date.Given as goal

abbrev pub invariant-dates : goal.invariant-dates
invariant-dates l =
    (l.out.tokens ≡ l.initial.out.tokens ++ flat_map (λ x. tokens_of (date_parts_json x)) (take l.date-index l.dates))
    × (l.out.before ≡ l.initial.out.before)
