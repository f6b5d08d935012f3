use Rattle.std.proofs.Common.{◌≡◌, rules, tests, not, ◌&&◌, ap, sym, ◌∙◌}
use Rattle.std.specs.Prelude.{chars, encode_utf8_all, filter, string_bytes}
use Rattle.std.specs.Char.{is_whitespace}
use Rattle.std.proofs.lemmas.List.Elements.{filter_from_retain}
use Rattle.bib_text.proofs.TextFacts.{chars_whole}
use Rattle.bib_findings.specs.Identities.{is_brace}
use Rattle.bib_findings.proofs.WordFacts.{filter_both}
use Rattle.bib_findings.proofs.identities.squeezed.Goals as goal

pub returns : goal.returns
returns c =
    let f = c.retain.ensures.filtered in
    let all : f.all ≡ chars (string_bytes c.in_ok-text.text) =
    sym (chars_whole f.all (string_bytes c.in_ok-text.text) (f.all, (f.are, f.spell)) (sym f.spell)) in
    f.stay
    ∙ ap encode_utf8_all (filter_from_retain _ (λ ch. not (is_brace ch) && not (is_whitespace ch))
    (λ p x b q k. search (rules, tests)) _ f.all f.kept f.chosen
    ∙ filter_both (λ ch. not (is_brace ch)) (λ ch. not (is_whitespace ch)) f.all
    ∙ ap (λ l. filter (λ ch. not (is_whitespace ch)) (filter (λ ch. not (is_brace ch)) l)) (all ∙ ap chars c.in_ok-text.ensures.value))
