use Rattle.std.proofs.Common.{ap, map, ◌∙◌}
use Rattle.std.specs.Option.{option_map}
use Rattle.bib_syntax.specs.Views.{piece_of}
use Rattle.bib_abbreviations.proofs.PieceFacts.{lookup_sorted}
use Rattle.bib_abbreviations.proofs.definitions.Lookup.get.Goals as goal

pub returns-in-Sorted : goal.returns-in-Sorted
returns-in-Sorted c =
    rw c.in-Sorted.is
    (ap (option_map (λ field. map piece_of field.now.items))
    (c.copied-in-Sorted.ensures ∙ c.get-in-Sorted.ensures.value
    ∙ lookup_sorted c.args.name.now c.in-Sorted.definitions.now.entries))
