use Rattle.std.proofs.Common.{List, ℕ, bytes_eq, rules, tests, sym, ◌∙◌}
use Rattle.std.proofs.lemmas.Iterator.{YieldsList-from_slice}
use Rattle.std.proofs.lemmas.Iterator.Search.{any_from_yields_List}
use denote.Ref.{Bor}
use Rattle.bib_text.proofs.ListFacts.{any_mapped}
use Rattle.bib_findings.proofs.nearest.is_one_of.Goals as goal

pub returns : goal.returns
returns c =
    any_from_yields_List (λ (word : Bor (List ℕ)). bytes_eq word.now c.args.text.now) _ _ _
    c.any.ensures.ran (YieldsList-from_slice c.args.words.now cc) (λ x b q k. search (rules, tests))
    ∙ sym
    (any_mapped (λ (word : Bor (List ℕ)). word.now) (λ word. bytes_eq word c.args.text.now) c.args.words.now)
