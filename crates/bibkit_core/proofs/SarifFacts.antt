-- The rules of a log.
use Rattle.std.proofs.Common.{◌≡◌, ◌<◌, true, false, List, [], ◌∷◌, ◌++◌, length, sym, ap, ◌∙◌, append_assoc, append-nil, arith}
use Rattle.std.proofs.lemmas.Grind.{flat_map-append}
use Rattle.std.specs.List.{AllZip, flat_map}
use Rattle.bibkit_core.specs.Objects.{element}
use Rattle.bibkit_core.specs.Joining.{with_rule}
use Rattle.bibkit_core.specs.Sarif.{Rule, rule_elements, rule_object}
use Rattle.bibkit_core.proofs.FindingFacts.{not_zero}

-- with one more rule, its object is appended
pub rules_more : (rules : List Rule) (rule : Rule) → rule_elements (rules ++ rule ∷ []) ≡ with_rule (rule_elements rules) rule
rules_more [] rule = append-nil (element true (rule_object rule))
rules_more (other ∷ rules) rule =
    let first = element true (rule_object other) in
    let more = flat_map (λ r. element false (rule_object r)) in
    let above : 0 < length (rule_elements (other ∷ rules)) = omega arith in
    ap (λ t. first ++ t)
    (flat_map-append (λ r. element false (rule_object r)) rules (rule ∷ [])
    ∙ ap (λ t. more rules ++ t) (append-nil (element false (rule_object rule))))
    ∙ sym (append_assoc first (more rules) (element false (rule_object rule)))
    ∙ ap (λ b. rule_elements (other ∷ rules) ++ element b (rule_object rule))
    (sym (not_zero (length (rule_elements (other ∷ rules))) above))
