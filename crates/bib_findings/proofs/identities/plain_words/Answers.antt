use Rattle.std.proofs.Common.{◌≡◌, ap, ◌∙◌, subst, IfOk, false}
use Rattle.std.specs.Prelude.{string_bytes}
use Rattle.bib_findings.specs.Identities.{folded, folded_words, spaced_words}
use Rattle.bib_findings.specs.Words.{without_braces, words_text}
use Rattle.bib_findings.proofs.WordFacts.{all_words}
use Rattle.bib_findings.proofs.identities.plain_words.Goals as goal

pub returns : goal.returns
returns c =
    subst (λ l. IfOk c.words.result (λ plain. string_bytes plain ≡ l))
    (ap (λ t. words_text false (without_braces t)) (c.deref.ensures ∙ c.in_ok-lowercase.ensures)
    ∙ ap spaced_words (all_words (folded_words (folded c.args.text.now)))) c.words.ensures
