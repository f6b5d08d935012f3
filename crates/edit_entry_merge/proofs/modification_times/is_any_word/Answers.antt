use Rattle.std.proofs.Common.{List, ℕ, rules, tests, sym, ◌∙◌}
use Rattle.std.proofs.lemmas.Iterator.{YieldsList-from_slice}
use Rattle.std.proofs.lemmas.Iterator.Search.{any_from_yields_List}
use denote.Ref.{Bor}
use Rattle.bib_text.proofs.ListFacts.{any_mapped}
use Rattle.bib_syntax.specs.Grammar.{is_word}
use Rattle.edit_entry_merge.proofs.modification_times.is_any_word.Goals as goal

pub returns : goal.returns
returns c =
    any_from_yields_List (λ (word : Bor (List ℕ)). is_word c.args.name.now word.now) _ _ _
    c.any.ensures.ran (YieldsList-from_slice c.args.words.now cc) (λ x b q k. search (rules, tests))
    ∙ sym (any_mapped (λ (word : Bor (List ℕ)). word.now) (λ word. is_word c.args.name.now word) c.args.words.now)
