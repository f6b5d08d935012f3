use Rattle.std.proofs.Common.{List, ℕ, rules, tests, sym, ◌∙◌}
use Rattle.std.specs.Str.{str_eq_ignore_ascii_case}
use Rattle.std.proofs.lemmas.Iterator.{YieldsList-from_slice}
use Rattle.std.proofs.lemmas.Iterator.Search.{any_from_yields_List}
use denote.Ref.{Bor}
use Rattle.bib_text.proofs.ListFacts.{any_mapped}
use Rattle.bib_findings.proofs.nearest.is_among.Goals as goal

pub returns : goal.returns
returns c =
    any_from_yields_List (λ (known : Bor (List ℕ)). str_eq_ignore_ascii_case known.now c.args.name.now) _ _ _
    c.any.ensures.ran (YieldsList-from_slice c.args.names.now cc) (λ x b q k. search (rules, tests))
    ∙ sym (any_mapped (λ (known : Bor (List ℕ)). known.now) (λ known. str_eq_ignore_ascii_case known c.args.name.now) c.args.names.now)
