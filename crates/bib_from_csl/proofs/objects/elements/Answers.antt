use Rattle.std.proofs.Common.{◌∙◌, map, ap, sym, Some}
use Rattle.json.specs.Value.{value_view}
use Rattle.bib_from_csl.specs.Objects.{array_elements}
use Rattle.bib_from_csl.proofs.ObjectFacts.{elements_of_array}
use Rattle.bib_from_csl.proofs.objects.elements.Goals as goal

pub returns-in-Array : goal.returns-in-Array
returns-in-Array c =
    ap (λ vs. Some (map value_view vs)) c.as_slice.ensures.value ∙ elements_of_array c.in-Array.elements
    ∙ ap (λ v. array_elements (value_view v)) (sym c.in-Array.is)
