use Rattle.std.proofs.Common.{List, ℕ, rules, tests, sym, ◌∙◌}
use Rattle.std.specs.Prelude.{bytes_eq}
use Rattle.std.proofs.lemmas.Iterator.{YieldsList-from_slice}
use Rattle.std.proofs.lemmas.Iterator.Search.{any_from_yields_List}
use denote.Ref.{Bor}
use Rattle.bib_text.proofs.ListFacts.{any_mapped}
use Rattle.bib_csl.proofs.named.is_among.Goals as goal

pub returns : goal.returns
returns c =
    any_from_yields_List (λ (known : Bor (List ℕ)). bytes_eq c.args.name.now known.now) _ _ _
    c.any.ensures.ran (YieldsList-from_slice c.args.names.now cc) (λ x b q k. search (rules, tests))
    ∙ sym (any_mapped (λ (known : Bor (List ℕ)). known.now) (bytes_eq c.args.name.now) c.args.names.now)
