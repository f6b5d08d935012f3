use Rattle.std.proofs.Common.{◌≡◌, drop}
use Rattle.std.specs.List.{list_any}
use Rattle.bib_chunks.specs.Values.{text}
use Rattle.bib_csl.specs.People.{is_prefix_option}
use Rattle.bib_csl.proofs.people.uses_prefix_in.Given as goal

abbrev pub invariant-options : goal.invariant-options
invariant-options l =
    list_any (λ option. is_prefix_option (text option)) (drop l.option-index l.option-items)
    ≡ list_any (λ option. is_prefix_option (text option)) l.option-items
