use Rattle.std.proofs.Common.{◌∙◌, map, ap, sym, Some}
use Rattle.json.specs.Value.{value_view}
use Rattle.bib_from_csl.specs.Objects.{object_members}
use Rattle.bib_from_csl.proofs.ObjectFacts.{members_of_object}
use Rattle.bib_from_csl.proofs.objects.members.Goals as goal

pub returns-in-Object : goal.returns-in-Object
returns-in-Object c =
    ap (λ ms. Some (map (λ m. (m.0.now, value_view m.1)) ms)) c.as_slice.ensures.value
    ∙ members_of_object c.in-Object.members ∙ ap (λ v. object_members (value_view v)) (sym c.in-Object.is)
