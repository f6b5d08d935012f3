use Rattle.std.proofs.Common.{◌≡◌, ◌++◌, codes, subst, IfOk, ◌∙◌}
use Rattle.std.specs.String.{string_bytes}
use Rattle.bibkit_core.specs.Sarif.{region_object}
use Rattle.bibkit_core.proofs.sarif.location_object.Goals as goal

pub returns : goal.returns
returns c =
    let before = codes "{\"physicalLocation\":{\"artifactLocation\":{\"uri\":\"" in
    let between = codes "\"},\"region\":" in
    subst
    (λ u.
    IfOk c.format.result
    (λ text. string_bytes text ≡ before ++ (u ++ (between ++ (region_object c.args.region ++ codes "}}")))))
    (c.as_str.ensures.value ∙ c.in_ok-uri.ensures)
    (subst
    (λ r.
    IfOk c.format.result
    (λ text. string_bytes text ≡ before ++ (c.as_str.result.now ++ (between ++ (r ++ codes "}}")))))
    (c.as_str-2.ensures.value ∙ c.in_ok-region.ensures) c.format.ensures.ok)
