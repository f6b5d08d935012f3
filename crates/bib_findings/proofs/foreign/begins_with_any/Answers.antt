use Rattle.std.proofs.Common.{List, ℕ, rules, tests, sym, ◌∙◌}
use Rattle.std.proofs.lemmas.Iterator.{YieldsList-from_slice}
use Rattle.std.proofs.lemmas.Iterator.Search.{any_from_yields_List}
use denote.Ref.{Bor}
use Rattle.bib_text.proofs.ListFacts.{any_mapped}
use Rattle.bib_findings.specs.Foreign.{begins_in_any_case}
use Rattle.bib_findings.proofs.foreign.begins_with_any.Goals as goal

pub returns : goal.returns
returns c =
    any_from_yields_List (λ (prefix : Bor (List ℕ)). begins_in_any_case prefix.now c.args.name.now) _ _ _
    c.any.ensures.ran (YieldsList-from_slice c.args.prefixes.now cc) (λ x b q k. search (rules, tests))
    ∙ sym (any_mapped (λ (prefix : Bor (List ℕ)). prefix.now) (λ prefix. begins_in_any_case prefix c.args.name.now) c.args.prefixes.now)
