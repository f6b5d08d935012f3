use Rattle.std.proofs.Common.{◌∙◌, ◌++◌, List, ℕ, codes, ap, append_assoc}
use Rattle.std.specs.String.{string_bytes}
use Rattle.bib_queries.proofs.preambles.print_preamble.Goals as goal

pub returns : goal.returns
returns c =
    let old : List ℕ = string_bytes c.args.printed.now in
    let inside : List ℕ = c.args.inside.now in
    let line_end : List ℕ = c.args.line_end.now in
    c.in_ok-push_str-4.ensures.bytes
    ∙ ap (λ t. t ++ line_end)
    (c.in_ok-push_str-3.ensures.bytes
    ∙ ap (λ t. t ++ codes "\"}") (c.in_ok-push_str-2.ensures.bytes ∙ ap (λ t. t ++ inside) c.in_ok-push_str.ensures.bytes))
    ∙ append_assoc ((old ++ codes "@preamble{\"") ++ inside) (codes "\"}") line_end
    ∙ append_assoc (old ++ codes "@preamble{\"") inside (codes "\"}" ++ line_end)
    ∙ append_assoc old (codes "@preamble{\"") (inside ++ (codes "\"}" ++ line_end))
