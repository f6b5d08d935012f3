use Rattle.std.proofs.Common.{◌≡◌, ◌||◌, is_some, sym, ap, ◌∙◌}
use Rattle.bib_text.proofs.OptionFacts.{some_mapped}
use Rattle.bib_abbreviations.specs.Abbreviations.{given_by, month}
use Rattle.bib_abbreviations.proofs.AbbreviationFacts.{sorted_given}
use Rattle.bib_abbreviations.proofs.reader.FieldReader.knows.Goals as goal

pub returns-then-is_some : goal.returns-then-is_some
returns-then-is_some c =
    let same = sorted_given c.self.inside.definitions ∙ ap given_by c.self.view_is in
    let there : is_some (given_by c.args.self.now c.args.name.now) ≡ c.is_some.result =
    ap (λ d. is_some (d c.args.name.now)) (sym same) ∙ ap is_some (sym c.get.ensures) ∙ some_mapped _ c.get.result
    ∙ sym c.is_some.ensures in
    c.if-is_some.true ∙ ap (λ b. b || is_some (month c.args.name.now)) (sym (there ∙ c.if-is_some.true))

pub returns-else-is_some : goal.returns-else-is_some
returns-else-is_some c =
    let same = sorted_given c.self.inside.definitions ∙ ap given_by c.self.view_is in
    let there : is_some (given_by c.args.self.now c.args.name.now) ≡ c.is_some.result =
    ap (λ d. is_some (d c.args.name.now)) (sym same) ∙ ap is_some (sym c.get.ensures) ∙ some_mapped _ c.get.result
    ∙ sym c.is_some.ensures in
    let begins : c.is_some-else-is_some.result ≡ is_some (month c.args.name.now) =
    c.is_some-else-is_some.ensures ∙ sym (some_mapped _ c.month.result) ∙ ap is_some c.month.ensures in
    begins ∙ ap (λ b. b || is_some (month c.args.name.now)) (sym (there ∙ c.if-is_some.false))
