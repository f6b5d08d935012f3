use Rattle.std.proofs.Common.{◌≡◌, ℕ, ◌==◌, not, rules, tests, ◌∙◌, subst, IfOk}
use Rattle.std.specs.Prelude.{chars, encode_utf8_all, filter, string_bytes}
use Rattle.std.proofs.lemmas.Iterator.{YieldsList-from_chars, text_from_collect}
use Rattle.std.proofs.lemmas.Iterator.Consumers.{YieldsList-from_filter}
use Rattle.bib_text.specs.Characters as char
use Rattle.bib_findings.proofs.identities.unhyphened.Goals as goal

pub returns : goal.returns
returns c =
    subst
    (λ t. IfOk c.collect.result (λ found. string_bytes found ≡ encode_utf8_all (filter (λ ch. not (ch == char.hyphen)) (chars t))))
    (c.as_str.ensures.value ∙ c.in_ok-text.ensures)
    (text_from_collect _ c.collect.ensures.ran
    (YieldsList-from_filter _ (λ (ch : ℕ). not (ch == char.hyphen)) (YieldsList-from_chars c.as_str.result.now c.as_str.utf8 cc)
    c.filter.ensures.closure (λ x r q k. search (rules, tests))))
